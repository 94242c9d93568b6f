-- The lines that are printed, each ended by byte 10.
use Rattle.std.specs.Prelude.{ℕ, ◌+◌, List, [], ◌∷◌, ◌++◌, codes, decimal}
use Rattle.std.proofs.Math.Utf8.{encode}
use Rattle.records.specs.declared.Counts.{Counts}
use Rattle.records.specs.declared.Transition.{Transition}
use Rattle.records.specs.declared.Divergence.{Divergence}
use Rattle.records.specs.declared.Label.{Label}
use Rattle.records.specs.declared.EquationRecord.{EquationRecord}
use Rattle.records.specs.Spelling.{counts_text, transition_text, divergence_text, label_text}
use Rattle.rulebook_text.specs.declared.equation.Rulebook.{Rulebook}
use Rattle.rulebook_text.specs.Rulebooks.{head_text}
use Rattle.job.specs.Parts.{fault_text}
use Rattle.job.specs.declared.fault.JobFault.{JobFault}

-- E,part,number,line,field
abbrev pub fault_line : JobFault → List ℕ
fault_line e = fault_text e ++ codes "\n"

-- F,states,actions,atoms
abbrev pub counts_line : Counts → List ℕ
counts_line n = counts_text n ++ codes "\n"

-- T,source,action,target
abbrev pub transition_line : Transition → List ℕ
transition_line x = transition_text x ++ codes "\n"

-- U,state,action
abbrev pub divergence_line : Divergence → List ℕ
divergence_line x = divergence_text x ++ codes "\n"

-- P,atom,state
abbrev pub label_line : Label → List ℕ
label_line x = label_text x ++ codes "\n"

-- R,side,n
abbrev pub rulebook_line : Rulebook → List ℕ
rulebook_line b = head_text b ++ codes "\n"

-- Q,i,form,first,second
abbrev pub equation_line : ℕ → EquationRecord → List ℕ
equation_line i e =
    codes "Q," ++ (decimal i ++ (codes "," ++ (encode e.form ++ (codes "," ++ (decimal e.first ++ (codes "," ++ (decimal e.second ++ codes "\n")))))))

-- one line after another
unfoldable pub all_lines : {X : Type 0} → (X → List ℕ) → List X → List ℕ
all_lines line [] = []
all_lines line (x ∷ xs) = line x ++ all_lines line xs

-- the equations, numbered from i
unfoldable pub equation_lines : ℕ → List EquationRecord → List ℕ
equation_lines i [] = []
equation_lines i (e ∷ es) = equation_line i e ++ equation_lines (i + 1) es
