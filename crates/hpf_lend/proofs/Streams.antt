-- Streams that begin others, and messages behind others.
use Rattle.std.specs.Prelude.{◌≡◌, ℕ, suc, ◌+◌, ◌-◌, ◌^◌, ◌<◌, ◌≤◌, ℤ, pos, List, [], ◌∷◌, ◌++◌, length, map, get_or, Some, None, Contains}
use Rattle.std.specs.List.{AllByRecursion}
use Rattle.std.proofs.Common.{refl, sym, ap, ◌∙◌, arith, subst, append-nil}
use Rattle.std.proofs.lemmas.List.{length-map, get_or-map, ext_get_or}
use Rattle.std.proofs.lemmas.Option.{none-some}
use Rattle.std.proofs.lemmas.List.Elements.{All-from_recursion}
use Rattle.hpf_lend.specs.declared.message.EndKind.{EndKind}
use Rattle.hpf_lend.specs.declared.message.Message.{Message}
use Rattle.hpf_lend.specs.declared.message.Message.TheVariants.{Frame, End}
use Rattle.hpf_lend.specs.Plain.{Plain, Home, home_of}
use Rattle.hpf_lend.specs.Messages.{ends}
use Rattle.hpf_lend.specs.Streams.{Stream, frames_of, homes_of, end_of, stream_of, IsFormed, IsPrefix, Begins, values_at, shown, applied}
use Rattle.hpf_lend.proofs.Prefixes.{prefix_refl, prefix_trans, prefix_map, prefix_length, prefix_whole, prefix_reads, prefix_from_reads}

pub begins_refl : (a : Stream) → Begins a a
begins_refl a = record { front = prefix_refl a.frames; whole = λ kind e. refl }

pub begins_trans : (a b c : Stream) → Begins a b → Begins b c → Begins a c
begins_trans a b c p q = record {
  front = prefix_trans a.frames b.frames c.frames p.front q.front;
  whole = λ kind e. p.whole kind e ∙ q.whole kind (sym (ap (λ (s : Stream). s.end) (p.whole kind e)) ∙ e);
}

pub begins_applied : (f : List ℤ → List ℤ) (a b : Stream) → Begins a b → Begins (applied f a) (applied f b)
begins_applied f a b p = record {
  front = prefix_map f a.frames b.frames p.front;
  whole = λ kind e. ap (applied f) (p.whole kind e);
}

pub begins_shown : (places : List ℕ) (a b : Stream) → Begins a b → Begins (shown places a) (shown places b)
begins_shown places a b p = begins_applied (values_at places) a b p

begins_more : (front rest : List Message) → Begins (stream_of front) (stream_of (front ++ rest))
begins_more [] rest = record { front = (frames_of rest, refl); whole = λ kind e. absurd (none-some kind e) }
begins_more (Frame number buffer ∷ front) rest =
    let r = begins_more front rest in
    record {
      front = (r.front.0, ap (λ (l : List (List ℤ)). buffer.values ∷ l) r.front.1);
      whole = λ kind e. ap (λ (s : Stream). let t : Stream = record { frames = buffer.values ∷ s.frames; end = s.end } in t) (r.whole kind e);
    }
begins_more (End kind ∷ front) rest = record { front = ([], refl); whole = λ k e. refl }

-- what the first messages say begins what all of them say
pub begins_prefix : (front messages : List Message) → IsPrefix front messages → Begins (stream_of front) (stream_of messages)
begins_prefix front messages p = subst (λ all. Begins (stream_of front) (stream_of all)) p.1 (begins_more front p.0)

homes_more : (front rest : List Message) → IsPrefix (homes_of front) (homes_of (front ++ rest))
homes_more [] rest = (homes_of rest, refl)
homes_more (Frame number buffer ∷ front) rest = let r = homes_more front rest in (r.0, ap (λ (l : List Home). home_of buffer ∷ l) r.1)
homes_more (End kind ∷ front) rest = ([], refl)

pub homes_prefix : (front messages : List Message) → IsPrefix front messages → IsPrefix (homes_of front) (homes_of messages)
homes_prefix front messages p = subst (λ all. IsPrefix (homes_of front) (homes_of all)) p.1 (homes_more front p.0)

formed_more : (size next : ℕ) (front rest : List Message) → IsFormed size next (front ++ rest) → IsFormed size next front
formed_more size next [] rest f = tt
formed_more size next (Frame number buffer ∷ front) rest f = (f.0, f.1, f.2, formed_more size (next + 1) front rest f.3)
formed_more size next (End kind ∷ []) rest f = refl
formed_more size next (End kind ∷ message ∷ front) rest f = absurd (omega (arith, ap length f))

-- the first of well formed messages are well formed
pub formed_prefix : (size next : ℕ) (front messages : List Message) → IsPrefix front messages → IsFormed size next messages → IsFormed size next front
formed_prefix size next front messages p f = formed_more size next front p.0 (subst (IsFormed size next) (sym p.1) f)

pub length-homes_of : (messages : List Message) → length (homes_of messages) ≡ length (frames_of messages)
length-homes_of [] = refl
length-homes_of (Frame number buffer ∷ messages) = ap suc (length-homes_of messages)
length-homes_of (End kind ∷ messages) = refl

-- an end is the one message that is no frame
pub length_formed : (size next : ℕ) (messages : List Message) → IsFormed size next messages → length messages ≤ length (homes_of messages) + 1
length_formed size next [] f = omega arith
length_formed size next (Frame number buffer ∷ messages) f = omega (arith, length_formed size (next + 1) messages f.3)
length_formed size next (End kind ∷ messages) f = omega (arith, ap length f)

-- frames are messages
pub length_homes : (messages : List Message) → length (homes_of messages) ≤ length messages
length_homes [] = omega arith
length_homes (Frame number buffer ∷ messages) = omega (arith, length_homes messages)
length_homes (End kind ∷ messages) = omega arith

-- ---- one message more

pub no_end : (messages : List Message) → ends messages ≡ 0 → end_of messages ≡ None
no_end [] e = refl
no_end (Frame number buffer ∷ messages) e = no_end messages e
no_end (End kind ∷ messages) e = absurd (omega (arith, e))

pub none_ends : (messages : List Message) → end_of messages ≡ None → ends messages ≡ 0
none_ends [] e = refl
none_ends (Frame number buffer ∷ messages) e = none_ends messages e
none_ends (End kind ∷ messages) e = absurd (none-some kind (sym e))

frames_push : (front more : List Message) → end_of front ≡ None → frames_of (front ++ more) ≡ frames_of front ++ frames_of more
frames_push [] more none = refl
frames_push (Frame n buffer ∷ front) more none = ap (λ (l : List (List ℤ)). buffer.values ∷ l) (frames_push front more none)
frames_push (End kind ∷ front) more none = absurd (none-some kind (sym none))

pub homes_push : (front more : List Message) → end_of front ≡ None → homes_of (front ++ more) ≡ homes_of front ++ homes_of more
homes_push [] more none = refl
homes_push (Frame n buffer ∷ front) more none = ap (λ (l : List Home). home_of buffer ∷ l) (homes_push front more none)
homes_push (End kind ∷ front) more none = absurd (none-some kind (sym none))

end_push : (front more : List Message) → end_of front ≡ None → end_of (front ++ more) ≡ end_of more
end_push [] more none = refl
end_push (Frame n buffer ∷ front) more none = end_push front more none
end_push (End kind ∷ front) more none = absurd (none-some kind (sym none))

pub stream_push : (front : List Message) (number : ℕ) (buffer : Plain) → end_of front ≡ None
    → stream_of (front ++ Frame number buffer ∷ []) ≡ record { frames = frames_of front ++ buffer.values ∷ []; end = None }
stream_push front number buffer none =
    let f = frames_push front (Frame number buffer ∷ []) none in
    let e = end_push front (Frame number buffer ∷ []) none in
    λ i. record { frames = f i; end = e i }

pub stream_end : (front : List Message) (kind : EndKind) → end_of front ≡ None
    → stream_of (front ++ End kind ∷ []) ≡ record { frames = frames_of front; end = Some kind }
stream_end front kind none =
    let f = frames_push front (End kind ∷ []) none ∙ append-nil (frames_of front) in
    let e = end_push front (End kind ∷ []) none in
    λ i. record { frames = f i; end = e i }

-- an end has no home
pub homes_ended : (front : List Message) (kind : EndKind) → homes_of (front ++ End kind ∷ []) ≡ homes_of front
homes_ended [] kind = refl
homes_ended (Frame n buffer ∷ front) kind = ap (λ (l : List Home). home_of buffer ∷ l) (homes_ended front kind)
homes_ended (End other ∷ front) kind = refl

-- a frame is well formed behind others where it is the next and has the size
abbrev pub IsNextFrame : ℕ → ℕ → List Message → ℕ → Plain → Type 0
IsNextFrame size next front number buffer =
    IsFormed size next front × (number ≡ next + length front) × (number < 2 ^ 32 - 1) × (length buffer.values ≡ size)

pub formed_push : (size next number : ℕ) (front : List Message) (buffer : Plain) → end_of front ≡ None
    → IsNextFrame size next front number buffer → IsFormed size next (front ++ Frame number buffer ∷ [])
formed_push size next number [] buffer none f = (omega (arith, f.1), omega (arith, f.1, f.2), f.3, tt)
formed_push size next number (Frame n b ∷ front) buffer none f =
    (f.0.0, f.0.1, f.0.2, formed_push size (next + 1) number front buffer none (f.0.3, omega (arith, f.1), f.2, f.3))
formed_push size next number (End kind ∷ front) buffer none f = absurd (none-some kind (sym none))

pub formed_pushed : (size next number : ℕ) (front : List Message) (buffer : Plain) → end_of front ≡ None
    → IsFormed size next (front ++ Frame number buffer ∷ []) → IsNextFrame size next front number buffer
formed_pushed size next number [] buffer none f = (tt, omega (arith, f.0), omega (arith, f.0, f.1), f.2)
formed_pushed size next number (Frame n b ∷ front) buffer none f =
    let r = formed_pushed size (next + 1) number front buffer none f.3 in
    ((f.0, f.1, f.2, r.0), omega (arith, r.1), r.2, r.3)
formed_pushed size next number (End kind ∷ front) buffer none f = absurd (none-some kind (sym none))

pub formed_end : (size next : ℕ) (front : List Message) (kind : EndKind) → end_of front ≡ None → IsFormed size next front → IsFormed size next (front ++ End kind ∷ [])
formed_end size next [] kind none f = refl
formed_end size next (Frame n b ∷ front) kind none f = (f.0, f.1, f.2, formed_end size (next + 1) front kind none f.3)
formed_end size next (End other ∷ front) kind none f = absurd (none-some other (sym none))

-- ---- streams of parts

-- places that show the same show each of them the same
same_at : (places : List ℕ) (a b : List ℤ) (place : ℕ) → values_at places a ≡ values_at places b → Contains places place
    → get_or a place (pos 0) ≡ get_or b place (pos 0)
same_at places a b place e c =
    let at = λ (part : List ℤ). get_or-map (λ p. get_or part p (pos 0)) places c.0 place (pos 0) c.1 in
    subst (λ p. get_or a p (pos 0) ≡ get_or b p (pos 0)) c.2 (sym (at a) ∙ (ap (λ (values : List ℤ). get_or values c.0 (pos 0)) e ∙ at b))

-- Streams of parts of one size, of which each place is shown alike, begin one another as they are shown.
pub begins_from_shown : (size : ℕ) (work right : Stream) → 0 < size
    → AllByRecursion (λ part. length part ≡ size) work.frames → AllByRecursion (λ part. length part ≡ size) right.frames
    → ((place : ℕ) → place < size → (places : List ℕ) × Contains places place × Begins (shown places work) (shown places right))
    → Begins work right
begins_from_shown size work right some sizes right_sizes seen = record { front = front; whole = whole }
  where
    first : (places : List ℕ) × Contains places 0 × Begins (shown places work) (shown places right)
    first = seen 0 some

    few : length work.frames ≤ length right.frames
    few = omega (arith, prefix_length _ _ (first.2.front), length-map work.frames (values_at first.0), length-map right.frames (values_at first.0))

    size_at : (frames : List (List ℤ)) → AllByRecursion (λ part. length part ≡ size) frames → (k : ℕ) → k < length frames → length (get_or frames k []) ≡ size
    size_at frames all k below = All-from_recursion (λ part. length part ≡ size) frames all k [] below

    shown_at : (k : ℕ) → k < length work.frames → (places : List ℕ) → Begins (shown places work) (shown places right)
        → values_at places (get_or work.frames k []) ≡ values_at places (get_or right.frames k [])
    shown_at k below places b =
        sym (get_or-map (values_at places) work.frames k [] [] below)
        ∙ (prefix_reads (map (values_at places) work.frames) (map (values_at places) right.frames) b.front k [] (omega (arith, below, length-map work.frames (values_at places)))
        ∙ get_or-map (values_at places) right.frames k [] [] (omega (arith, below, few)))

    reads : (k : ℕ) → k < length work.frames → get_or work.frames k [] ≡ get_or right.frames k []
    reads k below =
        let size_w = size_at work.frames sizes k below in
        let size_r = size_at right.frames right_sizes k (omega (arith, below, few)) in
        ext_get_or (pos 0) _ _ (size_w ∙ sym size_r) (λ place in_it.
        let s = seen place (omega (arith, in_it, size_w)) in
        same_at s.0 _ _ place (shown_at k below s.0 s.2) s.1)

    front : IsPrefix work.frames right.frames
    front = prefix_from_reads [] work.frames right.frames few reads

    whole : (kind : EndKind) → work.end ≡ Some kind → work ≡ right
    whole kind e =
        let same = first.2.whole kind e in
        let frames = prefix_whole work.frames right.frames front
        (omega (arith, ap (λ (s : Stream). length s.frames) same, length-map work.frames (values_at first.0), length-map right.frames (values_at first.0))) in
        let ends = ap (λ (s : Stream). s.end) same in
        λ i. record { frames = frames i; end = ends i }
