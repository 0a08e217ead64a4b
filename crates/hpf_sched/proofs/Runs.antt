-- The runs of moves.
use Rattle.std.proofs.Common.{◌≡◌, ℕ, zero, suc, ◌+◌, ◌-◌, ◌<◌, ◌≤◌, Bool, true, false, ◌&&◌, ◌==◌, cond, List, [], ◌∷◌, ◌++◌, length, map, get_or, take, set, All, arith, sym, ap, ◌∙◌, subst, refl, length-append, append_assoc, drop, take-append-drop}
use Rattle.std.specs.List.{range_with_len}
use Rattle.std.proofs.lemmas.Bool.{false≢true, and_parts, and_from}
use Rattle.std.proofs.lemmas.Bool.Decides.{Decides-eqb}
use Rattle.std.proofs.lemmas.List.{take_more, take_all, set_split, drop_all, append-nil}
use Rattle.std.proofs.lemmas.List.Concat.{flat_map-append}
use Rattle.std.proofs.lemmas.List.Elements.{All-head, All-tail, All-cons, All-append, All-nil, All-take}
use Rattle.std.proofs.lemmas.List.FromFn.{map-range_with_len_more, length-map-range_with_len, get_or-map-range_with_len}
use Rattle.hpf_sched.specs.declared.step.Step.{Step}
use Rattle.hpf_sched.specs.declared.step.Move.{Move}
use Rattle.hpf_sched.specs.Moves.{moves_of, moves, GoesOn, EndsBefore, AreApart, AreLongest, joined, runs, EntersInOrder, IsKeptAs}

abbrev pub step_of : ℕ → ℕ → ℕ → Step
step_of f t n = record { from = f; to = t; length = n }

abbrev pub move_of : ℕ → ℕ → Move
move_of f t = record { from = f; to = t }

-- whether a step begins behind these places
abbrev pub is_next : ℕ → ℕ → Step → Bool
is_next f t step = (step.from == f + 1) && (step.to == t + 1)

next_is : (f t : ℕ) (step : Step) → is_next f t step ≡ true → (step.from ≡ f + 1) × (step.to ≡ t + 1)
next_is f t step h =
    let parts = and_parts (step.from == f + 1) (step.to == t + 1) h in
    ((Decides-eqb step.from (f + 1)).0 parts.0, (Decides-eqb step.to (t + 1)).0 parts.1)

is_so : (a b : ℕ) → a ≡ b → (a == b) ≡ true
is_so a b e = (Decides-eqb a b).1 e

-- ---- runs of steps
some_tail : (step : Step) (steps : List Step) → AreLongest (step ∷ steps) → AreLongest steps
some_tail step steps h = record { some = All-tail (λ (s : Step). 1 ≤ s.length) step steps h.some; apart = h.apart.1 }

-- a move of which no run is the next one stands alone
alone_here : (f t : ℕ) (step : Step) (steps : List Step) (b : Bool) → is_next f t step ≡ b → (GoesOn (step_of f t 1) step → ⊥) → cond b (step_of f t (step.length + 1) ∷ steps) (step_of f t 1 ∷ step ∷ steps) ≡ step_of f t 1 ∷ step ∷ steps
alone_here f t step steps true e apart =
    let parts = next_is f t step e in
    absurd (apart (record { from = parts.0; to = parts.1 }))
alone_here f t step steps false e apart = refl

alone : (f t : ℕ) (steps : List Step) → EndsBefore (step_of f t 1) steps → joined (move_of f t) steps ≡ step_of f t 1 ∷ steps
alone f t [] apart = refl
alone f t (step ∷ steps) apart = alone_here f t step steps (is_next f t step) refl apart

abbrev pub stretch : ℕ → ℕ → ℕ → ℕ → List Move
stretch f t a n = map (λ k. move_of (f + k) (t + k)) (range_with_len a n)

ends_later : (f t a n : ℕ) (steps : List Step) → EndsBefore (step_of (f + a) (t + a) (suc n)) steps → EndsBefore (step_of (f + (a + 1)) (t + (a + 1)) n) steps
ends_later f t a n [] h = tt
ends_later f t a n (step ∷ steps) h = λ g. h (record { from = omega (arith, g.from); to = omega (arith, g.to) })

-- a stretch is one run
stretch_run : (f t a n : ℕ) (list : List Move) → EndsBefore (step_of (f + a) (t + a) (suc n)) (runs list) → runs (stretch f t a (suc n) ++ list) ≡ step_of (f + a) (t + a) (suc n) ∷ runs list
stretch_run f t a zero list h = alone (f + a) (t + a) (runs list) h
stretch_run f t a (suc n) list h =
    let rest = stretch_run f t (a + 1) n list (ends_later f t a (suc n) (runs list) h) in
    let from : (f + (a + 1) == f + a + 1) ≡ true = is_so (f + (a + 1)) (f + a + 1) (omega arith) in
    let to : (t + (a + 1) == t + a + 1) ≡ true = is_so (t + (a + 1)) (t + a + 1) (omega arith) in
    let more : suc n + 1 ≡ suc (suc n) = omega arith in
    rw (rest, from, to, more) refl

ends_at_zero : (f t n : ℕ) (steps : List Step) → EndsBefore (step_of f t n) steps → EndsBefore (step_of (f + 0) (t + 0) n) steps
ends_at_zero f t n [] h = tt
ends_at_zero f t n (next ∷ steps) h = λ g. h (record { from = omega (arith, g.from); to = omega (arith, g.to) })

step_is : (f t n : ℕ) → step_of (f + 0) (t + 0) n ≡ step_of f t n
step_is f t n =
    let e : f + 0 ≡ f = omega arith in
    let d : t + 0 ≡ t = omega arith in
    cc

one_run : (f t n : ℕ) (list : List Move) → 1 ≤ n → EndsBefore (step_of f t n) (runs list) → runs (moves_of (step_of f t n) ++ list) ≡ step_of f t n ∷ runs list
one_run f t zero list some h = absurd (omega arith)
one_run f t (suc n) list some h =
    stretch_run f t 0 n list (ends_at_zero f t (suc n) (runs list) h) ∙ ap (λ (s : Step). s ∷ runs list) (step_is f t (suc n))

-- steps that are as long as possible are the runs of their moves
pub runs_are : (steps : List Step) → AreLongest steps → runs (moves steps) ≡ steps
runs_are [] h = refl
runs_are (step ∷ steps) h =
    let rest = runs_are steps (some_tail step steps h) in
    let some = All-head (λ (s : Step). 1 ≤ s.length) step steps h.some in
    one_run step.from step.to step.length (moves steps) some (rw rest h.apart.0) ∙ ap (λ (ss : List Step). step ∷ ss) rest

-- ---- the runs of any moves
shifted : (f t a n : ℕ) → stretch f t (a + 1) n ≡ stretch (f + 1) (t + 1) a n
shifted f t a zero = refl
shifted f t a (suc n) =
    let from : f + (a + 1) ≡ f + 1 + a = omega arith in
    let to : t + (a + 1) ≡ t + 1 + a = omega arith in
    cc (shifted f t (a + 1) n)

-- the moves of a step are its first and those of a step one place on
pub first_move : (f t n : ℕ) → moves_of (step_of f t (n + 1)) ≡ move_of f t ∷ moves_of (step_of (f + 1) (t + 1) n)
first_move f t n =
    let more : n + 1 ≡ suc n = omega arith in
    let from : f + 0 ≡ f = omega arith in
    let to : t + 0 ≡ t = omega arith in
    ap (λ (m : ℕ). stretch f t 0 m) more ∙ ap (λ (ms : List Move). move_of (f + 0) (t + 0) ∷ ms) (shifted f t 0 n)
    ∙ cc

-- and its last, where it has one more
pub last_move : (f t n : ℕ) → moves_of (step_of f t (n + 1)) ≡ moves_of (step_of f t n) ++ move_of (f + n) (t + n) ∷ []
last_move f t n = map-range_with_len_more (λ (k : ℕ). move_of (f + k) (t + k)) 0 n n (omega arith)

one_move : (f t : ℕ) → moves_of (step_of f t 1) ≡ move_of f t ∷ []
one_move f t = first_move f t 0

joined_covers_here : (move : Move) (step : Step) (steps : List Step) (b : Bool) → is_next move.from move.to step ≡ b → moves (cond b (step_of move.from move.to (step.length + 1) ∷ steps) (step_of move.from move.to 1 ∷ step ∷ steps)) ≡ move ∷ moves (step ∷ steps)
joined_covers_here move step steps true e =
    let is = next_is move.from move.to step e in
    let next : step_of (move.from + 1) (move.to + 1) step.length ≡ step = ap (λ (f : ℕ). step_of f (move.to + 1) step.length) (sym is.0) ∙ ap (λ (t : ℕ). step_of step.from t step.length) (sym is.1) in
    ap (λ (ms : List Move). ms ++ moves steps) (first_move move.from move.to step.length)
    ∙ ap (λ (s : Step). move ∷ (moves_of s ++ moves steps)) next
joined_covers_here move step steps false e = ap (λ (ms : List Move). ms ++ moves (step ∷ steps)) (one_move move.from move.to)

joined_covers : (move : Move) (steps : List Step) → moves (joined move steps) ≡ move ∷ moves steps
joined_covers move [] = ap (λ (ms : List Move). ms ++ []) (one_move move.from move.to)
joined_covers move (step ∷ steps) = joined_covers_here move step steps (is_next move.from move.to step) refl

-- they list them
pub runs_cover : (list : List Move) → moves (runs list) ≡ list
runs_cover [] = refl
runs_cover (move ∷ list) = joined_covers move (runs list) ∙ ap (λ (l : List Move). move ∷ l) (runs_cover list)

ends_back : (f t n : ℕ) (steps : List Step) (step : Step) → (step.from ≡ f + 1) × (step.to ≡ t + 1) → EndsBefore (step_of step.from step.to n) steps → EndsBefore (step_of f t (n + 1)) steps
ends_back f t n [] step is h = tt
ends_back f t n (next ∷ steps) step is h = λ g. h (record { from = omega (arith, g.from, is.0); to = omega (arith, g.to, is.1) })

joined_longest_here : (move : Move) (step : Step) (steps : List Step) (b : Bool) → is_next move.from move.to step ≡ b → AreLongest (step ∷ steps) → AreLongest (cond b (step_of move.from move.to (step.length + 1) ∷ steps) (step_of move.from move.to 1 ∷ step ∷ steps))
joined_longest_here move step steps true e h =
    let is = next_is move.from move.to step e in
    record {
      some = All-cons (λ (s : Step). 1 ≤ s.length) _ steps (omega arith) (All-tail (λ (s : Step). 1 ≤ s.length) step steps h.some);
      apart = (ends_back move.from move.to step.length steps step is h.apart.0, h.apart.1);
    }
joined_longest_here move step steps false e h =
    record {
      some = All-cons (λ (s : Step). 1 ≤ s.length) _ (step ∷ steps) (omega arith) h.some;
      apart = (λ g. false≢true (sym e ∙ and_from _ _ (is_so step.from (move.from + 1) g.from) (is_so step.to (move.to + 1) g.to)), h.apart);
    }

joined_longest : (move : Move) (steps : List Step) → AreLongest steps → AreLongest (joined move steps)
joined_longest move [] h = record { some = All-cons (λ (s : Step). 1 ≤ s.length) _ [] (omega arith) (All-nil (λ (s : Step). 1 ≤ s.length)); apart = (tt, tt) }
joined_longest move (step ∷ steps) h = joined_longest_here move step steps (is_next move.from move.to step) refl h

pub runs_longest : (list : List Move) → AreLongest (runs list)
runs_longest [] = record { some = All-nil (λ (s : Step). 1 ≤ s.length); apart = tt }
runs_longest (move ∷ list) = joined_longest move (runs list) (runs_longest list)

-- ---- one move more
-- a step longer by one, at the end
longer_apart : (front : List Step) (f t n : ℕ) → AreApart (front ++ step_of f t n ∷ []) → AreApart (front ++ step_of f t (n + 1) ∷ [])
longer_apart [] f t n h = (tt, tt)
longer_apart (a ∷ []) f t n h = (λ g. h.0 (record { from = g.from; to = g.to }), (tt, tt))
longer_apart (a ∷ b ∷ front) f t n h = (h.0, longer_apart (b ∷ front) f t n h.1)

-- one step more, at the end
more_apart : (front : List Step) (last new : Step) → AreApart (front ++ last ∷ []) → (GoesOn last new → ⊥) → AreApart ((front ++ last ∷ []) ++ new ∷ [])
more_apart [] last new h other = (other, (tt, tt))
more_apart (a ∷ []) last new h other = (h.0, (other, (tt, tt)))
more_apart (a ∷ b ∷ front) last new h other = (h.0, more_apart (b ∷ front) last new h.1 other)

-- all but the last, and the last
pub front_and_last : (steps : List Step) (k : ℕ) (d : Step) → k + 1 ≡ length steps → steps ≡ take k steps ++ get_or steps k d ∷ []
front_and_last steps k d e = sym (take_all (k + 1) steps (omega arith)) ∙ take_more steps k d (omega arith)

pub set_last : (steps : List Step) (k : ℕ) (s : Step) → k + 1 ≡ length steps → set steps k s ≡ take k steps ++ s ∷ []
set_last steps k s e =
    set_split steps k s (omega arith) ∙ ap (λ (ss : List Step). take k steps ++ s ∷ ss) (drop_all (suc k) steps (omega arith))

-- the moves of steps whose last has one more move
pub moves_longer : (steps : List Step) (k : ℕ) (d : Step) → k + 1 ≡ length steps → moves (set steps k (step_of (get_or steps k d).from (get_or steps k d).to ((get_or steps k d).length + 1))) ≡ moves steps ++ move_of ((get_or steps k d).from + (get_or steps k d).length) ((get_or steps k d).to + (get_or steps k d).length) ∷ []
moves_longer steps k d e =
    let last = get_or steps k d in
    let new = move_of (last.from + last.length) (last.to + last.length) in
    let front = take k steps in
    ap moves (set_last steps k (step_of last.from last.to (last.length + 1)) e)
    ∙ flat_map-append moves_of front (step_of last.from last.to (last.length + 1) ∷ [])
    ∙ ap (λ (ms : List Move). moves front ++ (ms ++ [])) (last_move last.from last.to last.length)
    ∙ ap (λ (ms : List Move). moves front ++ ms) (append-nil (moves_of last ++ new ∷ []))
    ∙ sym (append_assoc (moves front) (moves_of last) (new ∷ []))
    ∙ ap (λ (ms : List Move). (moves front ++ ms) ++ new ∷ []) (sym (append-nil (moves_of last)))
    ∙ ap (λ (ms : List Move). ms ++ new ∷ []) (sym (flat_map-append moves_of front (last ∷ [])) ∙ ap moves (sym (front_and_last steps k d e)))

pub longest_longer : (steps : List Step) (k : ℕ) (d : Step) → k + 1 ≡ length steps → AreLongest steps → AreLongest (set steps k (step_of (get_or steps k d).from (get_or steps k d).to ((get_or steps k d).length + 1)))
longest_longer steps k d e h =
    let last = get_or steps k d in
    let front = take k steps in
    let P : Step → Type 0 = λ s. 1 ≤ s.length in
    let apart : AreApart (front ++ last ∷ []) = subst AreApart (front_and_last steps k d e) h.apart in
    rw (set_last steps k (step_of last.from last.to (last.length + 1)) e) (record {
      some = All-append P front _ (All-take P k steps h.some) (All-cons P _ [] (omega arith) (All-nil P));
      apart = longer_apart front last.from last.to last.length apart;
    })

-- the moves of steps with one step more
pub moves_more : (steps : List Step) (f t : ℕ) → moves (steps ++ step_of f t 1 ∷ []) ≡ moves steps ++ move_of f t ∷ []
moves_more steps f t =
    flat_map-append moves_of steps (step_of f t 1 ∷ []) ∙ ap (λ (ms : List Move). moves steps ++ (ms ++ [])) (one_move f t)

-- no step of these, or the last isn't followed by the one that comes
pub longest_first : (s : Step) → 1 ≤ s.length → AreLongest ([] ++ s ∷ [])
longest_first s some = record { some = All-cons (λ (s : Step). 1 ≤ s.length) s [] some (All-nil (λ (s : Step). 1 ≤ s.length)); apart = (tt, tt) }

pub longest_more : (steps : List Step) (k : ℕ) (d s : Step) → k + 1 ≡ length steps → 1 ≤ s.length → (GoesOn (get_or steps k d) s → ⊥) → AreLongest steps → AreLongest (steps ++ s ∷ [])
longest_more steps k d s e some other h =
    let P : Step → Type 0 = λ s. 1 ≤ s.length in
    let front = take k steps in
    let last = get_or steps k d in
    let apart : AreApart (front ++ last ∷ []) = subst AreApart (front_and_last steps k d e) h.apart in
    record {
      some = All-append P steps _ h.some (All-cons P s [] some (All-nil P));
      apart = subst (λ (ss : List Step). AreApart (ss ++ s ∷ [])) (sym (front_and_last steps k d e)) (more_apart front last s apart other);
    }

-- ---- a move comes
pub pushed_longer : (steps : List Step) (list : List Move) (n : ℕ) (r : Step) (f t : ℕ) → n ≡ length steps → 0 < n → moves steps ≡ list → r ≡ get_or steps (n - 1) r → f ≡ r.from + r.length → t ≡ r.to + r.length → moves (set steps (n - 1) (step_of r.from r.to (r.length + 1))) ≡ list ++ move_of f t ∷ []
pushed_longer steps list n r f t size some is last from to =
    let m = moves_longer steps (n - 1) r (omega arith) in
    subst (λ (s : Step). moves (set steps (n - 1) (step_of s.from s.to (s.length + 1))) ≡ list ++ move_of f t ∷ []) (sym last)
    (m ∙ ap (λ (ms : List Move). ms ++ move_of ((get_or steps (n - 1) r).from + (get_or steps (n - 1) r).length) ((get_or steps (n - 1) r).to + (get_or steps (n - 1) r).length) ∷ []) is
    ∙ ap (λ (s : Step). list ++ move_of (s.from + s.length) (s.to + s.length) ∷ []) (sym last)
    ∙ ap (λ (x : ℕ). list ++ move_of x (r.to + r.length) ∷ []) (sym from) ∙ ap (λ (x : ℕ). list ++ move_of f x ∷ []) (sym to))

pub pushed_longest : (steps : List Step) (n : ℕ) (r : Step) → n ≡ length steps → 0 < n → r ≡ get_or steps (n - 1) r → AreLongest steps → AreLongest (set steps (n - 1) (step_of r.from r.to (r.length + 1)))
pushed_longest steps n r size some last h =
    subst (λ (s : Step). AreLongest (set steps (n - 1) (step_of s.from s.to (s.length + 1)))) (sym last) (longest_longer steps (n - 1) r (omega arith) h)

pub pushed_more : (steps : List Step) (n : ℕ) (r : Step) (f t : ℕ) → n ≡ length steps → 0 < n → r ≡ get_or steps (n - 1) r → ((f ≡ r.from + r.length) × (t ≡ r.to + r.length) → ⊥) → AreLongest steps → AreLongest (steps ++ step_of f t 1 ∷ [])
pushed_more steps n r f t size some last other h =
    let apart : GoesOn (get_or steps (n - 1) r) (step_of f t 1) → ⊥ = subst (λ (s : Step). GoesOn s (step_of f t 1) → ⊥) last (λ (g : GoesOn r (step_of f t 1)). other (g.from, g.to)) in
    longest_more steps (n - 1) r (step_of f t 1) (omega arith) (omega arith) apart h

pub pushed_first : (steps : List Step) (n f t : ℕ) → n ≡ length steps → n ≤ 0 → AreLongest (steps ++ step_of f t 1 ∷ [])
pushed_first [] n f t size none = longest_first (step_of f t 1) (omega arith)
pushed_first (s ∷ steps) n f t size none = absurd (omega arith)

-- ---- how many moves
pub length-moves_of : (s : Step) → length (moves_of s) ≡ s.length
length-moves_of s = length-map-range_with_len (λ (k : ℕ). move_of (s.from + k) (s.to + k)) 0 s.length

-- one step more
pub total_more : (steps : List Step) (k : ℕ) (d : Step) → k < length steps → length (moves (take (k + 1) steps)) ≡ length (moves (take k steps)) + (get_or steps k d).length
total_more steps k d below =
    ap (λ (ss : List Step). length (moves ss)) (take_more steps k d below)
    ∙ ap length (flat_map-append moves_of (take k steps) (get_or steps k d ∷ []))
    ∙ omega (arith, length-append (moves (take k steps)) (moves_of (get_or steps k d) ++ []), length-append (moves_of (get_or steps k d)) [], length-moves_of (get_or steps k d))

pub total_within : (steps : List Step) (k : ℕ) → length (moves (take k steps)) ≤ length (moves steps)
total_within steps k =
    let whole : moves steps ≡ moves (take k steps) ++ moves (drop k steps) = ap moves (sym (take-append-drop k steps)) ∙ flat_map-append moves_of (take k steps) (drop k steps) in
    omega (arith, ap length whole, length-append (moves (take k steps)) (moves (drop k steps)))

-- ---- places entered in order
-- numbers that ascend and stay below a number are no more than that
ascending_at : (list : List Move) → EntersInOrder list → (k : ℕ) (d : Move) → k < length list → k ≤ (get_or list k d).to
ascending_at list h zero d below = omega arith
ascending_at list h (suc k) d below = omega (arith, ascending_at list h k d (omega arith), h k (suc k) d (omega arith) below)

few_here : (list : List Move) (n m : ℕ) (d : Move) → EntersInOrder list → All (λ move. move.to < n) list → m ≡ length list → m ≤ n
few_here list n zero d order small e = omega arith
few_here list n (suc m) d order small e = omega (arith, ascending_at list order m d (omega arith), small m d (omega arith))

pub few_entered : (list : List Move) (n : ℕ) → EntersInOrder list → All (λ move. move.to < n) list → length list ≤ n
few_entered list n order small = few_here list n (length list) (move_of 0 0) order small refl

-- ---- each place leads to itself
straight_order : (n : ℕ) → EntersInOrder (stretch 0 0 0 n)
straight_order n = λ i j d before below.
    let within : j < n = omega (arith, length-map-range_with_len (λ (k : ℕ). move_of (0 + k) (0 + k)) 0 n) in
    rw (get_or-map-range_with_len (λ (k : ℕ). move_of (0 + k) (0 + k)) 0 n i i d (omega arith) (omega arith), get_or-map-range_with_len (λ (k : ℕ). move_of (0 + k) (0 + k)) 0 n j j d within (omega arith)) (omega arith)

pub straight_kept : (n : ℕ) → 0 < n → IsKeptAs (step_of 0 0 n ∷ []) n
straight_kept n some =
    let is : moves (step_of 0 0 n ∷ []) ≡ stretch 0 0 0 n = append-nil (stretch 0 0 0 n) in
    record {
      longest = longest_first (step_of 0 0 n) (omega arith);
      order = rw is (straight_order n);
      number = rw is (sym (length-map-range_with_len (λ (k : ℕ). move_of (0 + k) (0 + k)) 0 n));
    }

pub none_kept : (n : ℕ) → n ≤ 0 → IsKeptAs [] n
none_kept n none = record {
  longest = runs_longest [];
  order = λ i j d before below. absurd (omega arith);
  number = omega arith;
}
