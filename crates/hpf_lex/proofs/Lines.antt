-- Lines, one after the other.
use Rattle.std.proofs.Common.{◌≡◌, ℕ, suc, ◌+◌, ◌-◌, ◌<◌, ◌≤◌, Bool, true, false, ◌&&◌, cond, eqb, List, [], ◌∷◌, ◌++◌, length, get_or, take, drop, refl, sym, ap, ◌∙◌, arith, subst}
use Rattle.std.specs.List.{position_or_len}
use Rattle.std.proofs.lemmas.List.Sums.{split_at_first, position_or_len_is, passes_at_first, fails_before_first}
use Rattle.std.proofs.lemmas.List.{drop_more, drop_all, length-take-le, get_or-take, take-take}
use Rattle.std.proofs.Common.{inl, inr, eq-eqb}
use Rattle.std.proofs.lemmas.Bool.{ne_eqb, cases_lt, and_parts, and_left, and_right, cases_Bool, eqb-true, cond-true, cond-false}
use Rattle.hpf_lex.specs.Bytes.{upper}
use Rattle.hpf_lex.specs.Line.{lines_of, begins_with}

-- ---- prefixes

pub begins_more : (prefix bytes : List ℕ) (i : ℕ) → i < length prefix → i < length bytes → upper (get_or bytes i 0) ≡ get_or prefix i 0
    → begins_with (drop (i + 1) prefix) (drop (i + 1) bytes) ≡ begins_with (drop i prefix) (drop i bytes)
begins_more prefix bytes i p b e =
    let step : (c d : ℕ) (cs ds : List ℕ) → upper d ≡ c → begins_with cs ds ≡ begins_with (c ∷ cs) (d ∷ ds) =
    λ c d cs ds h. rw (eq-eqb (upper d) c h) refl in
    rw (drop_more prefix i 0 p, drop_more bytes i 0 b) (step (get_or prefix i 0) (get_or bytes i 0) (drop (i + 1) prefix) (drop (i + 1) bytes) e)

pub begins_not : (prefix bytes : List ℕ) (i : ℕ) → i < length prefix → (i < length bytes → upper (get_or bytes i 0) ≡ get_or prefix i 0 → ⊥) → begins_with (drop i prefix) (drop i bytes) ≡ false
begins_not prefix bytes i p h =
    let none : (c : ℕ) (cs : List ℕ) → begins_with (c ∷ cs) [] ≡ false = λ c cs. refl in
    let some : (c d : ℕ) (cs ds : List ℕ) → (upper d ≡ c → ⊥) → begins_with (c ∷ cs) (d ∷ ds) ≡ false =
    λ c d cs ds n. rw (ne_eqb (upper d) c n) refl in
    elim (cases_lt i (length bytes)) [
      | inl b ↦ rw (drop_more prefix i 0 p, drop_more bytes i 0 b) (some (get_or prefix i 0) (get_or bytes i 0) (drop (i + 1) prefix) (drop (i + 1) bytes) (h b))
      | inr b ↦ rw (drop_more prefix i 0 p, drop_all i bytes b) (none (get_or prefix i 0) (drop (i + 1) prefix))
    ]

pub begins_fits : (prefix bytes : List ℕ) → begins_with prefix bytes ≡ true → length prefix ≤ length bytes
begins_fits [] bytes h = omega arith
begins_fits (p ∷ prefix) [] h = absurd cc
begins_fits (p ∷ prefix) (c ∷ bytes) h = omega (arith, begins_fits prefix bytes (and_parts _ _ h).1)

-- ---- the first line

-- a line that a line feed follows, without its carriage return
stripped : List ℕ → List ℕ
stripped [] = []
stripped (c ∷ []) = cond (eqb c 13) [] (c ∷ [])
stripped (c ∷ d ∷ cs) = c ∷ stripped (d ∷ cs)

stripped_is : (line : List ℕ) → stripped line ≡ cond (eqb (get_or line (length line - 1) 0) 13) (take (length line - 1) line) line
unfolding stripped
stripped_is [] = refl
stripped_is (c ∷ []) = refl
stripped_is (c ∷ d ∷ cs) =
    let less : suc (suc (length cs)) - 1 ≡ suc (length cs) = omega arith in
    let less' : suc (length cs) - 1 ≡ length cs = omega arith in
    let ih : stripped (d ∷ cs) ≡ cond (eqb (get_or (d ∷ cs) (length cs) 0) 13) (take (length cs) (d ∷ cs)) (d ∷ cs) = rw less' at (stripped_is (d ∷ cs)) in
    let move : (b : Bool) → c ∷ cond b (take (length cs) (d ∷ cs)) (d ∷ cs) ≡ cond b (take (suc (length cs)) (c ∷ d ∷ cs)) (c ∷ d ∷ cs) =
    λ b. elim b as (λ v. c ∷ cond v (take (length cs) (d ∷ cs)) (d ∷ cs) ≡ cond v (take (suc (length cs)) (c ∷ d ∷ cs)) (c ∷ d ∷ cs)) [ true ↦ refl | false ↦ refl ] in
    rw less (ap (λ (t : List ℕ). c ∷ t) ih ∙ move (eqb (get_or (d ∷ cs) (length cs) 0) 13))

pub lines-none : lines_of [] ≡ []
unfolding lines_of
lines-none = refl

pub lines-feed : (text : List ℕ) → lines_of (10 ∷ text) ≡ [] ∷ lines_of text
unfolding lines_of
lines-feed text = refl

lines-return : (text : List ℕ) → get_or text 0 0 ≡ 10 → lines_of (13 ∷ text) ≡ lines_of text
unfolding lines_of
lines-return text h = rw h refl

pub lines-byte : (c : ℕ) (text line : List ℕ) (lines : List (List ℕ)) → eqb c 10 ≡ false → (eqb c 13 && eqb (get_or text 0 0) 10) ≡ false → lines_of text ≡ line ∷ lines → lines_of (c ∷ text) ≡ (c ∷ line) ∷ lines
unfolding lines_of
lines-byte c text line lines h k e = rw (h, k, e) refl

lines-one : (c : ℕ) → eqb c 10 ≡ false → lines_of (c ∷ []) ≡ (c ∷ []) ∷ []
unfolding lines_of
lines-one c h = rw (h, and_right (eqb c 13) false refl) refl

abbrev NoFeed : List ℕ → Type 0
NoFeed line = position_or_len (λ c. eqb c 10) line ≡ length line

no_feed : (c : ℕ) (cs : List ℕ) → NoFeed (c ∷ cs) → (eqb c 10 ≡ false) × NoFeed cs
no_feed c cs h =
    elim (cases_Bool (eqb c 10)) [
      | inl e ↦ absurd (omega (arith, rw e at h))
      | inr e ↦ (e, omega (arith, rw e at h))
    ]

line_cut : (front behind : List ℕ) → NoFeed front → lines_of (front ++ 10 ∷ behind) ≡ stripped front ∷ lines_of behind
unfolding stripped
line_cut [] behind h = lines-feed behind
line_cut (c ∷ []) behind h =
    elim (cases_Bool (eqb c 13)) [
      | inl e ↦ rw (eqb-true c 13 e) (lines-return (10 ∷ behind) refl ∙ lines-feed behind)
      | inr e ↦ rw e (lines-byte c (10 ∷ behind) [] (lines_of behind) (no_feed c [] h).0 (and_left (eqb c 13) true e) (lines-feed behind))
    ]
line_cut (c ∷ d ∷ front) behind h =
    let here = no_feed c (d ∷ front) h in
    let next = no_feed d front here.1 in
    lines-byte c (d ∷ front ++ 10 ∷ behind) (stripped (d ∷ front)) (lines_of behind) here.0 (and_right (eqb c 13) (eqb d 10) next.0) (line_cut (d ∷ front) behind here.1)

pub last_line : (text : List ℕ) → 0 < length text → NoFeed text → lines_of text ≡ text ∷ []
last_line [] h e = absurd (omega arith)
last_line (c ∷ []) h e = lines-one c (no_feed c [] e).0
last_line (c ∷ d ∷ text) h e =
    let here = no_feed c (d ∷ text) e in
    let next = no_feed d text here.1 in
    lines-byte c (d ∷ text) (d ∷ text) [] here.0 (and_right (eqb c 13) (eqb d 10) next.0) (last_line (d ∷ text) (omega arith) here.1)

cut_at_feed : (text : List ℕ) (end : ℕ) → end ≡ position_or_len (λ c. eqb c 10) text → end < length text
    → (text ≡ take end text ++ (10 ∷ drop (end + 1) text)) × NoFeed (take end text) × (length (take end text) ≡ end)
cut_at_feed text end e lt =
    let lt' : position_or_len (λ c. eqb c 10) text < length text = omega arith in
    let whole = split_at_first (λ c. eqb c 10) text 0 lt' in
    let feed : get_or text (position_or_len (λ c. eqb c 10) text) 0 ≡ 10 = eqb-true _ 10 (passes_at_first (λ c. eqb c 10) text 0 lt') in
    let len : length (take end text) ≡ end = length-take-le end text (omega arith) in
    let none : NoFeed (take end text) =
    position_or_len_is (λ c. eqb c 10) (take end text) (length (take end text)) 0 (omega arith)
    (λ k h. rw (get_or-take end text k 0 (omega arith)) (fails_before_first (λ c. eqb c 10) text k 0 (omega arith)))
    (λ h. absurd (omega arith)) in
    (subst (λ (n : ℕ). text ≡ take n text ++ (10 ∷ drop (n + 1) text)) (sym e) (rw feed at whole), none, len)

-- the first line, where a line feed follows it
pub plain_line : (text : List ℕ) (end : ℕ) → end ≡ position_or_len (λ c. eqb c 10) text → end < length text → (0 < end → get_or text (end - 1) 0 ≡ 13 → ⊥)
    → lines_of text ≡ take end text ∷ lines_of (drop (end + 1) text)
unfolding stripped
plain_line text end e lt other =
    let cut = cut_at_feed text end e lt in
    let kept : stripped (take end text) ≡ take end text =
    elim (cases_lt 0 end) [
      | inl some ↦
          let last : get_or (take end text) (end - 1) 0 ≡ get_or text (end - 1) 0 = get_or-take end text (end - 1) 0 (omega arith) in
          let no : eqb (get_or (take end text) (end - 1) 0) 13 ≡ false = ne_eqb _ 13 (λ h. other some (sym last ∙ h)) in
          let whole : stripped (take end text) ≡ cond (eqb (get_or (take end text) (end - 1) 0) 13) (take (end - 1) (take end text)) (take end text) = rw cut.2 at (stripped_is (take end text)) in
          whole ∙ cond-false _ _ _ no
      | inr none ↦
          let empty : end ≡ 0 = omega arith in
          rw empty refl
    ] in
    ap lines_of cut.0 ∙ line_cut (take end text) (drop (end + 1) text) cut.1 ∙ ap (λ (t : List ℕ). t ∷ lines_of (drop (end + 1) text)) kept

-- the same, where a carriage return comes before the line feed
pub returned_line : (text : List ℕ) (end : ℕ) → end ≡ position_or_len (λ c. eqb c 10) text → end < length text → 0 < end → get_or text (end - 1) 0 ≡ 13
    → lines_of text ≡ take (end - 1) text ∷ lines_of (drop (end + 1) text)
returned_line text end e lt some last =
    let cut = cut_at_feed text end e lt in
    let last' : get_or (take end text) (end - 1) 0 ≡ get_or text (end - 1) 0 = get_or-take end text (end - 1) 0 (omega arith) in
    let yes : eqb (get_or (take end text) (end - 1) 0) 13 ≡ true = eq-eqb _ 13 (last' ∙ last) in
    let whole : stripped (take end text) ≡ cond (eqb (get_or (take end text) (end - 1) 0) 13) (take (end - 1) (take end text)) (take end text) = rw cut.2 at (stripped_is (take end text)) in
    let kept : stripped (take end text) ≡ take (end - 1) text = whole ∙ cond-true _ _ _ yes ∙ take-take (end - 1) end text (omega arith) in
    ap lines_of cut.0 ∙ line_cut (take end text) (drop (end + 1) text) cut.1 ∙ ap (λ (t : List ℕ). t ∷ lines_of (drop (end + 1) text)) kept
