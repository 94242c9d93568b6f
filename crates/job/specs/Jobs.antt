-- Jobs: a flow text, and then a rulebook text from the first line that begins with R.
use Rattle.std.specs.Prelude.{◌≡◌, ℕ, ◌+◌, ◌<◌, ◌⊎◌, List, ◌++◌, length, slice_index}
use Rattle.records.specs.declared.Counts.{Counts}
use Rattle.fields.specs.Faults.{fault}
use Rattle.fields.specs.declared.fault.Cause.TheVariants.{Size}
use Rattle.fields.specs.declared.fault.Fault.{Fault}
use Rattle.lines.specs.Texts.{Sized, Reads, outcome, refused}
use Rattle.flow_text.specs.Flows.{Room, flow_grammar}
use Rattle.flow_text.specs.declared.record.Record.{Record}
use Rattle.rulebook_text.specs.Rulebooks.{Numbered, rulebook_grammar}
use Rattle.rulebook_text.specs.declared.equation.Rulebook.{Rulebook}
use Rattle.job.specs.Parts.{job_fault}
use Rattle.job.specs.declared.fault.JobFault.{JobFault}
use Rattle.job.specs.declared.fault.Part.TheVariants.{Whole, Flow, Book}

-- a line begins at place i
abbrev pub LineBegins : List ℕ → ℕ → Type 0
LineBegins text i = (i ≡ 0) ⊎ ((j : ℕ) × (i ≡ j + 1) × (slice_index text j ≡ 10))

-- a line that begins with R begins at place i
abbrev pub RulebookBegins : List ℕ → ℕ → Type 0
RulebookBegins text i = (i < length text) × LineBegins text i × (slice_index text i ≡ 82)

-- the two texts make up the job; the second begins at the first line that begins with R, or is empty where there is none
pub record Splits (text flow rulebook : List ℕ) : Type 0 where
  pub whole : flow ++ rulebook ≡ text
  pub before : (j : ℕ) → j < length flow → RulebookBegins text j → ⊥
  pub second : 0 < length rulebook → RulebookBegins text (length flow)

-- the job's two texts say these, for a reader with so much room
pub record SaysJob (most : Room) (room : ℕ) (text : List ℕ) (counts : Counts) (records : List Record) (book : Rulebook) (equations : List Numbered) : Type 0 where
  pub sized : Sized text
  pub flow : List ℕ
  pub rulebook : List ℕ
  pub splits : Splits text flow rulebook
  pub flow_says : Reads (flow_grammar most) flow counts records
  pub rulebook_says : Reads (rulebook_grammar room) rulebook book equations

-- the fault is the job's first: of the job as a whole, of its flow text, or of its rulebook text
pub data Faults (most : Room) (room : ℕ) (text : List ℕ) (e : JobFault) : Type 0 where
  in_whole : (Sized text → ⊥) → e ≡ job_fault Whole (fault Size 0 0) → Faults most room text e
  in_flow : Sized text → (f b : List ℕ) → Splits text f b →
      (x : Fault) (rs : List Record) → outcome (flow_grammar most) f ≡ refused x rs → e ≡ job_fault Flow x → Faults most room text e
  in_rulebook : Sized text → (f b : List ℕ) → Splits text f b → (n : Counts) (rs : List Record) → Reads (flow_grammar most) f n rs →
      (x : Fault) (es : List Numbered) → outcome (rulebook_grammar room) b ≡ refused x es → e ≡ job_fault Book x → Faults most room text e

-- A job has at most one reading, and one that has a reading has no fault; a fault is the only one.
pub record OneOutcome (most : Room) (room : ℕ) (text : List ℕ) : Type 0 where
  pub one_reading : (n n' : Counts) (rs rs' : List Record) (b b' : Rulebook) (es es' : List Numbered) →
      SaysJob most room text n rs b es → SaysJob most room text n' rs' b' es' → (n ≡ n') × (rs ≡ rs') × (b ≡ b') × (es ≡ es')
  pub no_fault : (n : Counts) (rs : List Record) (b : Rulebook) (es : List Numbered) (e : JobFault) → SaysJob most room text n rs b es → Faults most room text e → ⊥
  pub one_fault : (e e' : JobFault) → Faults most room text e → Faults most room text e' → e ≡ e'
