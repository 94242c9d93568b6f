-- What is made of a job, and of the lists that the caller lends.
use Rattle.std.specs.Prelude.{◌≡◌, ℕ, List}
use Rattle.records.specs.declared.EquationRecord.{EquationRecord}
use Rattle.fields.specs.Faults.{fault}
use Rattle.fields.specs.declared.fault.Cause.TheVariants.{Size}
use Rattle.fields.specs.declared.fault.Fault.{Fault}
use Rattle.lines.specs.Texts.{Sized}
use Rattle.flow_text.specs.Flows.{Lent}
use Rattle.flow_text.specs.Reading as flow_text
use Rattle.flow_text.specs.declared.counts.Flow as flow
use Rattle.rulebook_text.specs.Reading as rulebook_text
use Rattle.rulebook_text.specs.declared.equation.Rulebook.{Rulebook}
use Rattle.job.specs.Jobs.{Splits}
use Rattle.job.specs.Parts.{job_fault}
use Rattle.job.specs.declared.fault.JobFault.{JobFault}
use Rattle.job.specs.declared.fault.Part.TheVariants.{Whole, Flow, Book}

-- both texts are accepted, and the lists hold what they say
pub record AcceptsTexts (f b : List ℕ) (n : flow.Flow) (book : Rulebook) (before after : Lent) (es es' : List EquationRecord) : Type 0 where
  pub flow_text : flow_text.Accepts f n before after
  pub rulebook_text : rulebook_text.Accepts b book es es'

-- the flow text is refused and the equations stay, or it is accepted and the rulebook text is refused
pub data RefusesTexts (f b : List ℕ) (e : JobFault) (before after : Lent) (es es' : List EquationRecord) : Type 0 where
  in_flow : (x : Fault) → flow_text.Refuses f x before after → e ≡ job_fault Flow x → es' ≡ es → RefusesTexts f b e before after es es'
  in_rulebook : (n : flow.Flow) → flow_text.Accepts f n before after → (x : Fault) → rulebook_text.Refuses b x es es' → e ≡ job_fault Book x → RefusesTexts f b e before after es es'

-- The job is cut in two texts, which are accepted.
pub record Accepts (text : List ℕ) (n : flow.Flow) (book : Rulebook) (before after : Lent) (es es' : List EquationRecord) : Type 0 where
  pub sized : Sized text
  pub flow_text : List ℕ
  pub rulebook_text : List ℕ
  pub splits : Splits text flow_text rulebook_text
  pub accepts : AcceptsTexts flow_text rulebook_text n book before after es es'

-- The job is refused as a whole and the lists stay, or one of its texts is refused.
pub data Refuses (text : List ℕ) (e : JobFault) (before after : Lent) (es es' : List EquationRecord) : Type 0 where
  as_whole : (Sized text → ⊥) → e ≡ job_fault Whole (fault Size 0 0) → after ≡ before → es' ≡ es → Refuses text e before after es es'
  in_text : Sized text → (f b : List ℕ) → Splits text f b → RefusesTexts f b e before after es es' → Refuses text e before after es es'
