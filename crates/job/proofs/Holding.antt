-- What a result says once it is held in a part.
use Rattle.std.proofs.Common.{◌≡◌, ℕ, Ok, Err, Result, subst, arith, MatchResult}
use Rattle.fields.specs.declared.fault.Fault.{Fault}
use Rattle.job.specs.Parts.{job_fault, in_part}
use Rattle.job.specs.declared.fault.Part.{Part}
use Rattle.job.specs.declared.fault.JobFault.{JobFault}

module _ {X : Type 0} (p : Part) (P : X → Type 0) (Q : Fault → Type 0) where
  pub held_ok : (r : Result X Fault) (x : X) → in_part p r ≡ Ok x → MatchResult r P Q → P x
  held_ok (Ok y) x e h = let same : y ≡ x = cc in subst P same h
  held_ok (Err f) x e h = absurd (let z : ◌≡◌ {A = ℕ} 0 1 = cc in omega arith)

  pub held_err : (r : Result X Fault) (e : JobFault) → in_part p r ≡ Err e → MatchResult r P Q → (f : Fault) × (e ≡ job_fault p f) × Q f
  held_err (Ok y) e is h = absurd (let z : ◌≡◌ {A = ℕ} 0 1 = cc in omega arith)
  held_err (Err f) e is h = (f, (cc), h)
