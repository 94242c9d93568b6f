-- What is made of a rulebook text.
use Rattle.std.specs.Prelude.{◌≡◌, ℕ, List, length}
use Rattle.records.specs.declared.EquationRecord.{EquationRecord}
use Rattle.fields.specs.declared.fault.Fault.{Fault}
use Rattle.lines.specs.Lent.{Filled}
use Rattle.lines.specs.Texts.{Reads, outcome, refused}
use Rattle.rulebook_text.specs.Rulebooks.{Numbered, rulebook_grammar, equations_of}
use Rattle.rulebook_text.specs.declared.equation.Rulebook.{Rulebook}

-- The text says the rulebook and its equations, and the list holds these.
pub record Accepts (text : List ℕ) (book : Rulebook) (before after : List EquationRecord) : Type 0 where
  pub records : List Numbered
  pub reads : Reads (rulebook_grammar (length before)) text book records
  pub count : length records ≡ book.equations
  pub filled : Filled before (equations_of records) after

-- The fault is the text's first, and the list holds the equations of the lines before it.
pub record Refuses (text : List ℕ) (fault : Fault) (before after : List EquationRecord) : Type 0 where
  pub records : List Numbered
  pub first : outcome (rulebook_grammar (length before)) text ≡ refused fault records
  pub filled : Filled before (equations_of records) after
