-- The parts of a job.
use Rattle.std.specs.Prelude.{ℕ, List, ◌++◌, codes, decimal, Ok, Err, Result}
use Rattle.fields.specs.Faults.{cause_number}
use Rattle.fields.specs.declared.fault.Fault.{Fault}
use Rattle.job.specs.declared.fault.Part.{Part}
use Rattle.job.specs.declared.fault.Part.TheVariants.{Whole, Flow, Book}
use Rattle.job.specs.declared.fault.JobFault.{JobFault}

-- the number by which a part is reported
abbrev pub part_number : Part → ℕ
part_number Whole = 0
part_number Flow = 1
part_number Book = 2

abbrev pub job_fault : Part → Fault → JobFault
job_fault p f = record { part = p; fault = f }

-- E,part,number,line,field: the line that reports a fault, without the byte 10 that ends it
abbrev pub fault_text : JobFault → List ℕ
fault_text e =
    codes "E," ++ (decimal (part_number e.part) ++ (codes "," ++ (decimal (cause_number e.fault.cause) ++ (codes "," ++ (decimal e.fault.line ++ (codes "," ++ decimal e.fault.field))))))

-- a fault is one of that part
abbrev pub in_part : {X : Type 0} → Part → Result X Fault → Result X JobFault
in_part p (Ok x) = Ok x
in_part p (Err f) = Err (job_fault p f)
