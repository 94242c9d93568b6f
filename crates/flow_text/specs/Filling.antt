-- The lines after the first, one by one.
use Rattle.std.specs.Prelude.{◌≡◌, ℕ, ◌+◌, List, Result, MatchResult}
use Rattle.records.specs.declared.Counts.{Counts}
use Rattle.fields.specs.Pieces.{pieces}
use Rattle.fields.specs.declared.fault.Fault.{Fault}
use Rattle.lines.specs.Texts.{outcome, body}
use Rattle.flow_text.specs.Flows.{flow_grammar, Lent, room_in, Kept}
use Rattle.flow_text.specs.Reading.{Accepts, Refuses}
use Rattle.flow_text.specs.declared.record.Record.{Record}
use Rattle.flow_text.specs.declared.counts.Flow.{Flow}

-- The lists hold the records of the lines so far, and what the rest says decides about the text.
pub record Sofar (text : List ℕ) (before after : Lent) (flow : Flow) (rest : List ℕ) (count : ℕ) : Type 0 where
  pub records : List Record
  pub goes : outcome (flow_grammar (room_in before)) text ≡ body (flow_grammar (room_in before)) flow.counts records (count + 1) (pieces 10 rest)
  pub kept : Kept before after flow records

-- Whatever text it is the rest of, the text is then accepted or refused.
pub record Fills {X : Type 0} (lists lists' : Lent) (flow flow' : Flow) (rest : List ℕ) (count : ℕ) (r : Result X Fault) : Type 0 where
  pub fills : (text : List ℕ) (before : Lent) → Sofar text before lists flow rest count → MatchResult r (λ _. Accepts text flow' before lists') (λ f. Refuses text f before lists')

-- the counts, and how much of each list is used
abbrev pub flow : Counts → (transitions divergences labels : ℕ) → Flow
flow n t u p = record { counts = n; transitions = t; divergences = u; labels = p }
