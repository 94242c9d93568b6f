-- A text is accepted exactly where it says a head and records.
use Rattle.std.proofs.Common.{◌≡◌, ℕ, suc, ◌+◌, ◌-◌, ◌≤◌, true, ◌&&◌, ltb, leb, List, [], ◌∷◌, ◌++◌, length, take, Some, None, Ok, Err, Option, Result, sym, refl, ap, ◌∙◌, subst, inl, inr, append_assoc, append-nil, add-zero, arith}
use Rattle.std.proofs.lemmas.Bool.{and_parts, and_from, leb-true, ltb-true, le-leb, lt-ltb, cases_Bool}
use Rattle.fields.specs.Pieces.{pieces}
use Rattle.fields.specs.Faults.{fault}
use Rattle.fields.specs.declared.fault.Cause.{Cause}
use Rattle.fields.specs.declared.fault.Cause.TheVariants.{Size, Form}
use Rattle.fields.specs.declared.fault.Fault.{Fault}
use Rattle.fields.proofs.Joining.{pieces_ended, ended_pieces}
use Rattle.lines.specs.Kinds.{Says, says, told_apart}
use Rattle.lines.specs.Texts.{Grammar, Sized, EachSays, Placed, Reads, Earlier, Outcome, accepted, refused, refused_at, at_end, last, by_result, by_option, body, whole, outcome, Exact}
use Rattle.lines.proofs.Saying.{says_found, says_spelt}

not_nil : {X : Type 0} (xs : List X) (x : X) (ys : List X) → xs ++ x ∷ ys ≡ [] → ⊥
not_nil [] x ys e = let z : ◌≡◌ {A = ℕ} 0 1 = cc in omega arith
not_nil (y ∷ xs) x ys e = let z : ◌≡◌ {A = ℕ} 0 1 = cc in omega arith

module _ {H R : Type 0} where
  refused_accepted : (f : Fault) (rs : List R) (h : H) (ss : List R) → ◌≡◌ {A = Outcome H R} (refused f rs) (accepted h ss) → ⊥
  refused_accepted f rs h ss e = let z : ◌≡◌ {A = ℕ} 0 1 = cc in omega arith

  at_end_accepted : (h : H) (rs : List R) (line : ℕ) (o : Option Cause) (h' : H) (rs' : List R) → at_end h rs line o ≡ accepted h' rs' → (o ≡ None) × (h ≡ h') × (rs ≡ rs')
  at_end_accepted h rs line None h' rs' e = (refl, (cc), (cc))
  at_end_accepted h rs line (Some why) h' rs' e = absurd (refused_accepted (fault why line 0) rs h' rs' e)

  -- a result that leads to acceptance is good, and a value that must not be there is not
  by_result_accepted : {X E : Type 0} (r : Result X E) (good : X → Outcome H R) (bad : E → Outcome H R) (h : H) (rs : List R) → ((e : E) → bad e ≡ accepted h rs → ⊥) → by_result r good bad ≡ accepted h rs → (x : X) × (r ≡ Ok x) × (good x ≡ accepted h rs)
  by_result_accepted (Ok x) good bad h rs never e = (x, refl, e)
  by_result_accepted (Err y) good bad h rs never e = absurd (never y e)

  by_option_accepted : {X : Type 0} (o : Option X) (some : X → Outcome H R) (none : Outcome H R) (h : H) (rs : List R) → ((x : X) → some x ≡ accepted h rs → ⊥) → by_option o some none ≡ accepted h rs → (o ≡ None) × (none ≡ accepted h rs)
  by_option_accepted (Some x) some none h rs never e = absurd (never x e)
  by_option_accepted None some none h rs never e = (refl, e)

  module _ (g : Grammar H R) where
    -- a line that is not the last piece
    pub body_line : (h : H) (rs : List R) (line : ℕ) (l : List ℕ) (ls : List (List ℕ)) → (ls ≡ [] → ⊥) →
        body g h rs line (l ∷ ls) ≡ by_result (says (g.bodies h) (pieces 44 l)) (λ r. by_option (g.misplaced h rs r) (λ e. refused_at line e rs) (body g h (rs ++ r ∷ []) (line + 1) ls)) (λ e. refused_at line e rs)
    unfolding body
    body_line h rs line l [] some = absurd (some refl)
    body_line h rs line l (m ∷ ls) some = refl

    -- What lines say that lead to acceptance
    record Accepts (h : H) (rs : List R) (ls : List (List ℕ)) (h' : H) (rs' : List R) : Type 0 where
      others : List (List ℕ)
      new : List R
      pieces_are : ls ≡ others ++ [] ∷ []
      head_is : h ≡ h'
      records_are : rs ++ new ≡ rs'
      says_each : EachSays (g.bodies h) others new
      placed : Placed g h rs new
      finished : g.unfinished h rs' ≡ None

    accepts_last : (h : H) (rs : List R) (line : ℕ) (l : List ℕ) (h' : H) (rs' : List R) → last g h rs line l ≡ accepted h' rs' → Accepts h rs (l ∷ []) h' rs'
    accepts_last h rs line [] h' rs' e =
        let p = at_end_accepted h rs line (g.unfinished h rs) h' rs' e in
        let P : List R → Type 0 = λ ss. g.unfinished h ss ≡ None in
        record { others = []; new = []; pieces_are = refl; head_is = p.1; records_are = append-nil rs ∙ p.2; says_each = tt; placed = tt; finished = subst P p.2 p.0 }
    accepts_last h rs line (b ∷ bs) h' rs' e = absurd (refused_accepted (fault Form line 0) rs h' rs' e)

    accepts : (h : H) (rs : List R) (line : ℕ) (ls : List (List ℕ)) (h' : H) (rs' : List R) → body g h rs line ls ≡ accepted h' rs' → Accepts h rs ls h' rs'
    unfolding body
    accepts h rs line [] h' rs' e = absurd (refused_accepted (fault Form line 0) rs h' rs' e)
    accepts h rs line (l ∷ []) h' rs' e = accepts_last h rs line l h' rs' e
    accepts h rs line (l ∷ m ∷ ls) h' rs' e =
        let never : (x : Cause × ℕ) → refused_at line x rs ≡ accepted h' rs' → ⊥ = λ x. refused_accepted (fault x.0 line x.1) rs h' rs' in
        let p = by_result_accepted (says (g.bodies h) (pieces 44 l)) _ _ h' rs' never e in
        let r = p.0 in
        let q = by_option_accepted (g.misplaced h rs r) _ _ h' rs' never p.2 in
        let a = accepts h (rs ++ r ∷ []) (line + 1) (m ∷ ls) h' rs' q.1 in
        record {
          others = l ∷ a.others;
          new = r ∷ a.new;
          pieces_are = ap (λ ks. l ∷ ks) a.pieces_are;
          head_is = a.head_is;
          records_are = sym (append_assoc rs (r ∷ []) a.new) ∙ a.records_are;
          says_each = (says_found (g.bodies h) l r p.1, a.says_each);
          placed = (q.0, a.placed);
          finished = a.finished;
        }

    -- and the other way round, where the kinds of lines are told apart
    module _ (apart : (h : H) → told_apart (g.bodies h) ≡ true) where
      accepted_by : (h : H) (rs : List R) (line : ℕ) (others : List (List ℕ)) (new : List R) → EachSays (g.bodies h) others new → Placed g h rs new → g.unfinished h (rs ++ new) ≡ None → body g h rs line (others ++ [] ∷ []) ≡ accepted h (rs ++ new)
      unfolding body
      accepted_by h rs line [] [] s p f =
          let e = append-nil rs in
          let P : List R → Type 0 = λ ss. g.unfinished h ss ≡ None in
          rw (subst P e f) (ap (accepted h) (sym e))
      accepted_by h rs line [] (r ∷ new) s p f = absurd s
      accepted_by h rs line (l ∷ others) [] s p f = absurd s
      accepted_by h rs line (l ∷ others) (r ∷ new) s p f =
          let e = append_assoc rs (r ∷ []) new in
          let P : List R → Type 0 = λ ss. g.unfinished h ss ≡ None in
          let next = accepted_by h (rs ++ r ∷ []) (line + 1) others new s.1 p.1 (subst P (sym e) f) in
          body_line h rs line l (others ++ [] ∷ []) (not_nil others [] [])
          ∙ rw (says_spelt l r (g.bodies h) (apart h) s.0, p.0) (next ∙ ap (accepted h) e)

    -- What lines say before a fault
    record Before (h : H) (rs : List R) (line : ℕ) (ls : List (List ℕ)) (f : Fault) (rs' : List R) : Type 0 where
      lines : ℕ
      new : List R
      line_is : f.line ≡ line + lines
      records_are : rs ++ new ≡ rs'
      says_each : EachSays (g.bodies h) (take lines ls) new
      placed : Placed g h rs new

    before_here : (h : H) (rs : List R) (line : ℕ) (ls : List (List ℕ)) (why : Cause) (k : ℕ) (f : Fault) (rs' : List R) → ◌≡◌ {A = Outcome H R} (refused (fault why line k) rs) (refused f rs') → Before h rs line ls f rs'
    before_here h rs line ls why k f rs' e =
        let same : fault why line k ≡ f = cc in
        let records : rs ≡ rs' = cc in
        record { lines = 0; new = []; line_is = ap (λ x. x.line) (sym same) ∙ sym (add-zero line); records_are = append-nil rs ∙ records; says_each = tt; placed = tt }

    before_last : (h : H) (rs : List R) (line : ℕ) (l : List ℕ) (ls : List (List ℕ)) (f : Fault) (rs' : List R) → last g h rs line l ≡ refused f rs' → Before h rs line ls f rs'
    before_last h rs line [] ls f rs' e = go (g.unfinished h rs) e
      where
        go : (o : Option Cause) → at_end h rs line o ≡ refused f rs' → Before h rs line ls f rs'
        go None e = absurd (refused_accepted f rs' h rs (sym e))
        go (Some why) e = before_here h rs line ls why 0 f rs' e
    before_last h rs line (b ∷ bs) ls f rs' e = before_here h rs line ls Form 0 f rs' e

    -- the first of these lines is at fault, or a later one
    module _ (h : H) (rs : List R) (line : ℕ) (l : List ℕ) (ls : List (List ℕ)) (f : Fault) (rs' : List R)
        (later : (r : R) → body g h (rs ++ r ∷ []) (line + 1) ls ≡ refused f rs' → Before h (rs ++ r ∷ []) (line + 1) ls f rs') where
      before_placed : (r : R) → says (g.bodies h) (pieces 44 l) ≡ Ok r → (o : Option (Cause × ℕ)) → g.misplaced h rs r ≡ o → by_option o (λ e. refused_at line e rs) (body g h (rs ++ r ∷ []) (line + 1) ls) ≡ refused f rs' → Before h rs line (l ∷ ls) f rs'
      before_placed r is (Some x) not e = before_here h rs line (l ∷ ls) x.0 x.1 f rs' e
      before_placed r is None fine e =
          let b = later r e in
          record {
            lines = suc b.lines;
            new = r ∷ b.new;
            line_is = b.line_is ∙ omega arith;
            records_are = sym (append_assoc rs (r ∷ []) b.new) ∙ b.records_are;
            says_each = (says_found (g.bodies h) l r is, b.says_each);
            placed = (fine, b.placed);
          }

      before_line : (o : Result R (Cause × ℕ)) → says (g.bodies h) (pieces 44 l) ≡ o → by_result o (λ r. by_option (g.misplaced h rs r) (λ e. refused_at line e rs) (body g h (rs ++ r ∷ []) (line + 1) ls)) (λ e. refused_at line e rs) ≡ refused f rs' → Before h rs line (l ∷ ls) f rs'
      before_line (Ok r) is e = before_placed r is (g.misplaced h rs r) refl e
      before_line (Err x) is e = before_here h rs line (l ∷ ls) x.0 x.1 f rs' e

    before : (h : H) (rs : List R) (line : ℕ) (ls : List (List ℕ)) (f : Fault) (rs' : List R) → body g h rs line ls ≡ refused f rs' → Before h rs line ls f rs'
    unfolding body
    before h rs line [] f rs' e = before_here h rs line [] Form 0 f rs' e
    before h rs line (l ∷ []) f rs' e = before_last h rs line l (l ∷ []) f rs' e
    before h rs line (l ∷ m ∷ ls) f rs' e =
        before_line h rs line l (m ∷ ls) f rs' (λ r. before h (rs ++ r ∷ []) (line + 1) (m ∷ ls) f rs') (says (g.bodies h) (pieces 44 l)) refl e

    -- The whole text

    sized : (text : List ℕ) → Sized text → (ltb 0 (length text) && leb (length text) 32768) ≡ true
    sized text h = and_from (ltb 0 (length text)) (leb (length text) 32768) (lt-ltb 0 (length text) h.0) (le-leb (length text) 32768 h.1)

    size_of : (text : List ℕ) → (ltb 0 (length text) && leb (length text) 32768) ≡ true → Sized text
    size_of text e =
        let p = and_parts (ltb 0 (length text)) (leb (length text) 32768) e in (ltb-true 0 (length text) p.0, leb-true (length text) 32768 p.1)

    whole_reads : (text : List ℕ) (ps : List (List ℕ)) (h : H) (rs : List R) → Sized text → pieces 10 text ≡ ps → whole g ps ≡ accepted h rs → Reads g text h rs
    unfolding whole
    whole_reads text [] h rs size is e = absurd (refused_accepted (fault Form 1 0) [] h rs e)
    whole_reads text (l ∷ []) h rs size is e = absurd (refused_accepted (fault Form 1 0) [] h rs e)
    whole_reads text (l ∷ m ∷ ls) h rs size is e =
        let never : (x : Cause × ℕ) → refused_at 1 x [] ≡ accepted h rs → ⊥ = λ x. refused_accepted (fault x.0 1 x.1) [] h rs in
        let p = by_result_accepted (says g.heads (pieces 44 l)) _ _ h rs never e in
        let a = accepts p.0 [] 2 (m ∷ ls) h rs p.2 in
        let same = a.head_is in
        let new = a.records_are in
        let cut = ended_pieces 10 text (l ∷ a.others) (is ∙ ap (λ ks. l ∷ ks) a.pieces_are) in
        let S : H → Type 0 = λ k. Says g.heads l k in
        let E : H → Type 0 = λ k. EachSays (g.bodies k) a.others a.new in
        let E' : List R → Type 0 = λ ss. EachSays (g.bodies h) a.others ss in
        let P : H → Type 0 = λ k. Placed g k [] a.new in
        let P' : List R → Type 0 = λ ss. Placed g h [] ss in
        let F : H → Type 0 = λ k. g.unfinished k rs ≡ None in
        record {
          sized = size;
          first = l;
          others = a.others;
          lines = record { whole = cut.0; clear = cut.1 };
          head = subst S same (says_found g.heads l p.0 p.1);
          body = subst E' new (subst E same a.says_each);
          placed = subst P' new (subst P same a.placed);
          finished = subst F same a.finished;
        }

    outcome_reads : (text : List ℕ) (h : H) (rs : List R) → outcome g text ≡ accepted h rs → Reads g text h rs
    unfolding outcome
    outcome_reads text h rs e =
        elim (cases_Bool (ltb 0 (length text) && leb (length text) 32768)) [
          | inl fine ↦ whole_reads text (pieces 10 text) h rs (size_of text fine) refl (rw fine at e)
          | inr not ↦ absurd (refused_accepted (fault Size 0 0) [] h rs (rw not at e))
        ]

    pub whole_line : (l : List ℕ) (ls : List (List ℕ)) → (ls ≡ [] → ⊥) → whole g (l ∷ ls) ≡ by_result (says g.heads (pieces 44 l)) (λ h. body g h [] 2 ls) (λ e. refused_at 1 e [])
    unfolding whole
    whole_line l [] some = absurd (some refl)
    whole_line l (m ∷ ls) some = refl

    pub outcome_sized : (text : List ℕ) → Sized text → outcome g text ≡ whole g (pieces 10 text)
    unfolding outcome
    outcome_sized text size = rw (sized text size)

    -- a text whose first line says a head
    pub outcome_headed : (text l : List ℕ) (ls : List (List ℕ)) (h : H) → Sized text → pieces 10 text ≡ l ∷ ls → (ls ≡ [] → ⊥) → says g.heads (pieces 44 l) ≡ Ok h → outcome g text ≡ body g h [] 2 ls
    outcome_headed text l ls h size is some e = outcome_sized text size ∙ ap (whole g) is ∙ whole_line l ls some ∙ rw e

    -- a fault of the text or of its first line
    earlier_none : (text : List ℕ) (why : Cause) (line k : ℕ) (f : Fault) (rs : List R) → line ≤ 1 → ◌≡◌ {A = Outcome H R} (refused (fault why line k) []) (refused f rs) → Earlier g text f rs
    earlier_none text why line k f rs low e =
        let same : fault why line k ≡ f = cc in
        let none : [] ≡ rs = cc in
        record { none = λ l. sym none; some = λ l. absurd (omega (arith, ap (λ x. x.line) same)) }

    earlier_headed : (text l : List ℕ) (ls : List (List ℕ)) (h : H) (f : Fault) (rs : List R) → pieces 10 text ≡ l ∷ ls → says g.heads (pieces 44 l) ≡ Ok h → Before h [] 2 ls f rs → Earlier g text f rs
    earlier_headed text l ls h f rs is says b =
        let lines : f.line - 2 ≡ b.lines = omega (arith, b.line_is) in
        let E : ℕ → Type 0 = λ n. EachSays (g.bodies h) (take n ls) rs in
        let E' : List R → Type 0 = λ ss. EachSays (g.bodies h) (take b.lines ls) ss in
        let P : List R → Type 0 = λ ss. Placed g h [] ss in
        record {
          none = λ low. absurd (omega (arith, b.line_is));
          some = λ low. (l, ls, h, is, says_found g.heads l h says, subst E (sym lines) (subst E' b.records_are b.says_each), subst P b.records_are b.placed);
        }

    earlier_whole : (text : List ℕ) (ps : List (List ℕ)) (f : Fault) (rs : List R) → pieces 10 text ≡ ps → whole g ps ≡ refused f rs → Earlier g text f rs
    unfolding whole
    earlier_whole text [] f rs is e = earlier_none text Form 1 0 f rs (omega arith) e
    earlier_whole text (l ∷ []) f rs is e = earlier_none text Form 1 0 f rs (omega arith) e
    earlier_whole text (l ∷ m ∷ ls) f rs is e = go (says g.heads (pieces 44 l)) refl e
      where
        go : (o : Result H (Cause × ℕ)) → says g.heads (pieces 44 l) ≡ o → by_result o (λ h. body g h [] 2 (m ∷ ls)) (λ e. refused_at 1 e []) ≡ refused f rs → Earlier g text f rs
        go (Ok h) says e = earlier_headed text l (m ∷ ls) h f rs is says (before h [] 2 (m ∷ ls) f rs e)
        go (Err x) says e = earlier_none text x.0 1 x.1 f rs (omega arith) e

    earlier : (text : List ℕ) (f : Fault) (rs : List R) → outcome g text ≡ refused f rs → Earlier g text f rs
    unfolding outcome
    earlier text f rs e =
        elim (cases_Bool (ltb 0 (length text) && leb (length text) 32768)) [
          | inl fine ↦ earlier_whole text (pieces 10 text) f rs refl (rw fine at e)
          | inr not ↦ earlier_none text Size 0 0 f rs (omega arith) (rw not at e)
        ]

    module _ (heads_apart : told_apart g.heads ≡ true) (bodies_apart : (h : H) → told_apart (g.bodies h) ≡ true) where
      reads_outcome : (text : List ℕ) (h : H) (rs : List R) → Reads g text h rs → outcome g text ≡ accepted h rs
      reads_outcome text h rs r =
          let is : pieces 10 text ≡ (r.first ∷ r.others) ++ [] ∷ [] = ap (pieces 10) (sym r.lines.whole) ∙ pieces_ended 10 (r.first ∷ r.others) r.lines.clear in
          outcome_headed text r.first (r.others ++ [] ∷ []) h r.sized is (not_nil r.others [] []) (says_spelt r.first h g.heads heads_apart r.head)
          ∙ accepted_by bodies_apart h [] 2 r.others rs r.body r.placed r.finished

      single : (text : List ℕ) (h h' : H) (rs rs' : List R) → Reads g text h rs → Reads g text h' rs' → (h ≡ h') × (rs ≡ rs')
      single text h h' rs rs' a b =
          let p = reads_outcome text h rs a in
          let q = reads_outcome text h' rs' b in ((cc), (cc))

      pub exact : Exact g
      exact = record { accepts = λ text h rs. (outcome_reads text h rs, reads_outcome text h rs); single = single; earlier = earlier }
