-- The lists that are made of records hold what the records describe.
use Rattle.std.proofs.Common.{◌≡◌, ℕ, ◌*◌, ◌<◌, Bool, ◌&&◌, ltb, List, length, get_or, map, None, subst}
use Rattle.lts.specs.declared.sets.SmallSet.{SmallSet}
use Rattle.lts.specs.Sets.{member}
use Rattle.sorting.specs.Sorting.{Counted, Sorted}
use Rattle.table.specs.Records.{has, is_divergence, is_label}
use Rattle.table.specs.declared.lists.Records.{Records}
use Rattle.table.specs.Lists.{refusal_of, lts_of}
use Rattle.table.specs.TableAnswers.{empty_set, held_lts, Stored, arrival, departure}
use Rattle.table.proofs.Builds.{held_listed, built_stored}
use Rattle.table.proofs.Means.{table_is}
use Rattle.table.proofs.Ranges.{counts_parts, four}
use Rattle.table.proofs.Verdicts.{few_parts, none_parts, not_again}

-- sets that were noted for m states, of which there are n
pub noted_at : (sets : List SmallSet) (test : ℕ → ℕ → Bool) (m n : ℕ) → m ≡ n →
    (length sets ≡ m) × ((s i : ℕ) → s < m → member (get_or sets s empty_set) i ≡ (ltb i 64 && test s i)) →
    (length sets ≡ n) × ((s i : ℕ) → s < n → member (get_or sets s empty_set) i ≡ (ltb i 64 && test s i))
noted_at sets test m n e noted =
    subst (λ (k : ℕ). (length sets ≡ k) × ((s i : ℕ) → s < k → member (get_or sets s empty_set) i ≡ (ltb i 64 && test s i))) e noted

pub made_table : (r : Records) → refusal_of r ≡ None →
    (arrivals departures : List (ℕ × ℕ)) (ends sources degrees : List ℕ) (gaps marks : List SmallSet) →
    arrivals ≡ map (arrival r.counts.states) r.transitions.now → departures ≡ map (departure r.counts.states) r.transitions.now →
    Sorted arrivals (r.counts.actions * r.counts.states) ends sources → Counted departures (r.counts.actions * r.counts.states) degrees →
    (length gaps ≡ r.counts.states) × ((s i : ℕ) → s < r.counts.states → member (get_or gaps s empty_set) i ≡ (ltb i 64 && has (is_divergence s i) r.divergences.now)) →
    (length marks ≡ r.counts.states) × ((s i : ℕ) → s < r.counts.states → member (get_or marks s empty_set) i ≡ (ltb i 64 && has (is_label i s) r.labels.now)) →
    (held_lts r.counts.states r.counts.actions r.counts.atoms ends sources gaps marks ≡ lts_of r) ×
    Stored r.counts.states r.counts.actions r.counts.atoms ends sources degrees gaps marks
made_table r none arrivals departures ends sources degrees gaps marks arrived departed sorted counted gap mark =
    let c = r.counts in
    let ts = r.transitions.now in
    let d = none_parts r none in
    let inside = four _ _ _ _ d.1 in
    let counts = counts_parts c inside.0 in
    let short = few_parts r d.0 in (
      table_is c ts r.divergences.now r.labels.now ends sources gaps marks inside.1 inside.2 inside.3 (not_again _ _ _ d.2) counts.2 counts.3
          (held_listed c ts inside.1 arrivals departures ends sources degrees arrived departed sorted counted) gap.1 mark.1,
      built_stored c ts inside.1 arrivals departures ends sources degrees arrived departed sorted counted gaps marks counts.0 counts.1 counts.2 counts.3 short.0 gap.0 mark.0,
    )
