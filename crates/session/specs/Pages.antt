-- Pages for the sheets that a list of calls asks for.
use Rattle.std.specs.Prelude.{ℕ, min}
use Rattle.semantics.specs.declared.Call.{Call}
use Rattle.semantics.specs.declared.Call.TheVariants.{Load, Pin, Run, Query, Sheet}

-- how long a page the call needs: no sheet has more than 71,780 bytes
abbrev pub page_room : Call → ℕ
page_room (Load rs) = 0
page_room (Pin s i) = 0
page_room (Run k) = 0
page_room (Query s i) = 0
page_room (Sheet room) = min room 71780
