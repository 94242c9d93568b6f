-- Each of some records is well-formed.
use Rattle.std.proofs.Common.{◌≡◌, ℕ, ◌&&◌, Bool, List, [], ◌∷◌, refl, ap}
use Rattle.std.specs.List.{list_all}
use Rattle.records.specs.declared.EquationRecord.{EquationRecord}
use Rattle.records.specs.Letters.{form_of}
use Rattle.semantics.specs.Lts.{Lts}
use Rattle.semantics.specs.Plain.{well_formed, all_well_formed}

pub all_listed : (F : Lts) (n : ℕ) (rs : List EquationRecord) → all_well_formed F n rs ≡ list_all (λ r. well_formed F n (form_of r.form) r.first r.second) rs
unfolding all_well_formed
all_listed F n [] = refl
all_listed F n (r ∷ rs) = ap (λ (b : Bool). well_formed F n (form_of r.form) r.first r.second && b) (all_listed F n rs)
