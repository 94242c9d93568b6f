-- What is made of a flow text.
use Rattle.std.specs.Prelude.{◌≡◌, ℕ, List}
use Rattle.fields.specs.declared.fault.Fault.{Fault}
use Rattle.lines.specs.Texts.{Reads, outcome, refused}
use Rattle.flow_text.specs.Flows.{flow_grammar, Lent, room_in, Holds, Kept}
use Rattle.flow_text.specs.declared.record.Record.{Record}
use Rattle.flow_text.specs.declared.counts.Flow.{Flow}

-- The text says the counts and records, and the lists hold these.
pub record Accepts (text : List ℕ) (flow : Flow) (before after : Lent) : Type 0 where
  pub records : List Record
  pub reads : Reads (flow_grammar (room_in before)) text flow.counts records
  pub kept : Kept before after flow records

-- The fault is the text's first, and the lists hold the records of the lines before it.
pub record Refuses (text : List ℕ) (fault : Fault) (before after : Lent) : Type 0 where
  pub records : List Record
  pub first : outcome (flow_grammar (room_in before)) text ≡ refused fault records
  pub holds : Holds before after records
