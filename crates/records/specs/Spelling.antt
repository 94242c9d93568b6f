-- How a text spells a record: a line without the byte 10 that ends it.
use Rattle.std.specs.Prelude.{ℕ, List, ◌++◌, codes, decimal}
use Rattle.records.specs.declared.Counts.{Counts}
use Rattle.records.specs.declared.Transition.{Transition}
use Rattle.records.specs.declared.Divergence.{Divergence}
use Rattle.records.specs.declared.Label.{Label}

-- F,states,actions,atoms
abbrev pub counts_text : Counts → List ℕ
counts_text n = codes "F," ++ (decimal n.states ++ (codes "," ++ (decimal n.actions ++ (codes "," ++ decimal n.atoms))))

-- T,source,action,target
abbrev pub transition_text : Transition → List ℕ
transition_text x = codes "T," ++ (decimal x.source ++ (codes "," ++ (decimal x.action ++ (codes "," ++ decimal x.target))))

-- U,state,action
abbrev pub divergence_text : Divergence → List ℕ
divergence_text x = codes "U," ++ (decimal x.state ++ (codes "," ++ decimal x.action))

-- P,atom,state
abbrev pub label_text : Label → List ℕ
label_text x = codes "P," ++ (decimal x.atom ++ (codes "," ++ decimal x.state))
