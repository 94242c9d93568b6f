-- Why and where a text is refused.
use Rattle.std.specs.Prelude.{ℕ}
use Rattle.fields.specs.declared.fault.Cause.{Cause}
use Rattle.fields.specs.declared.fault.Cause.TheVariants.{Size, Form, Malformed, Range, Repeated, Full, Turn}
use Rattle.fields.specs.declared.fault.Fault.{Fault}

-- the number by which a cause is reported
abbrev pub cause_number : Cause → ℕ
cause_number Size = 1
cause_number Form = 2
cause_number Malformed = 3
cause_number Range = 4
cause_number Repeated = 5
cause_number Full = 6
cause_number Turn = 7

abbrev pub fault : Cause → ℕ → ℕ → Fault
fault why l k = record { cause = why; line = l; field = k }
