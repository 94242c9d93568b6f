-- Nested systems with the same parts are the same.
use Rattle.std.proofs.Common.{◌≡◌, List, length, ap, ◌∙◌}
use Rattle.semantics.specs.Lts.{Lts}
use Rattle.lts.specs.declared.sets.SmallSet.{SmallSet}
use Rattle.lts.specs.Sets.{member}
use Rattle.joined.specs.Joined.{joined_lts}
use Rattle.fenced.specs.Fenced.{fenced_lts, set_at}

-- a system beside a fenced layer over two joined systems
abbrev pub shape : (q t u : Lts) (sets : List SmallSet) (inner outer : SmallSet) → Lts
shape q t u sets inner outer = joined_lts q (fenced_lts (joined_lts t u (member inner)) (length sets) (set_at sets)) (member outer)

pub same_shape : (q q' t t' u u' : Lts) (sets sets' : List SmallSet) (inner inner' outer outer' : SmallSet) →
    q ≡ q' → t ≡ t' → u ≡ u' → sets ≡ sets' → inner ≡ inner' → outer ≡ outer' → shape q t u sets inner outer ≡ shape q' t' u' sets' inner' outer'
same_shape q q' t t' u u' sets sets' inner inner' outer outer' eq et eu es ei eo =
    ap (λ x. shape x t u sets inner outer) eq ∙ ap (λ x. shape q' x u sets inner outer) et ∙ ap (λ x. shape q' t' x sets inner outer) eu ∙
    ap (λ x. shape q' t' u' x inner outer) es ∙ ap (λ x. shape q' t' u' sets' x outer) ei ∙ ap (λ x. shape q' t' u' sets' inner' x) eo
