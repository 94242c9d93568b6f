-- What the program prints for a job.
use Rattle.std.specs.Prelude.{◌≡◌, ℕ, List, ◌++◌}
use Rattle.records.specs.declared.Counts.{Counts}
use Rattle.flow_text.specs.Flows.{Room, room, transitions_of, divergences_of, labels_of}
use Rattle.flow_text.specs.declared.record.Record.{Record}
use Rattle.rulebook_text.specs.Rulebooks.{Numbered, equations_of}
use Rattle.rulebook_text.specs.declared.equation.Rulebook.{Rulebook}
use Rattle.job.specs.Jobs.{SaysJob, Faults}
use Rattle.job.specs.declared.fault.JobFault.{JobFault}
use Rattle.report.specs.Lines.{fault_line, counts_line, transition_line, divergence_line, label_line, rulebook_line, all_lines, equation_lines}

-- the counts, then the records of each kind in turn, then the rulebook
abbrev pub account : Counts → List Record → Rulebook → List Numbered → List ℕ
account n rs b es =
    counts_line n ++ (all_lines transition_line (transitions_of rs) ++ (all_lines divergence_line (divergences_of rs) ++ (all_lines label_line (labels_of rs) ++ (rulebook_line b ++ equation_lines 0 (equations_of es)))))

-- An account of what the job says, or the line of its first fault, for a reader with so much room.
pub data AnswersWithin (most : Room) (room : ℕ) (job out : List ℕ) : Type 0 where
  read : (n : Counts) (rs : List Record) (b : Rulebook) (es : List Numbered) → SaysJob most room job n rs b es → out ≡ account n rs b es → AnswersWithin most room job out
  refused : (e : JobFault) → Faults most room job e → out ≡ fault_line e → AnswersWithin most room job out

-- with room for every job within the limits
abbrev pub Answers : (job out : List ℕ) → Type 0
Answers job out = AnswersWithin (room 2048 1024 2048) 1024 job out
