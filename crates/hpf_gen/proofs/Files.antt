-- What is left of a generated file, and the pieces that it is made of.
use Rattle.std.proofs.Common.{◌≡◌, ℕ, zero, suc, ◌+◌, ◌-◌, ◌<◌, ◌≤◌, ℤ, List, [], ◌∷◌, ◌++◌, length, length-append, map, take, drop, take-append-drop, append_assoc, append-nil, arith, ap, sym, ◌∙◌, refl}
use Rattle.std.specs.List.{flat_map, range_with_len}
use Rattle.std.proofs.lemmas.List.{map-append}
use Rattle.std.proofs.lemmas.List.FromFn.{length-map-range_with_len}
use Rattle.std.proofs.lemmas.List.Concat.{flat_map-append}
use Rattle.hpf_frame.specs.FrameFile.{version_one, number, element, header, record_of, records, end_of, elements, file_of}
use Rattle.hpf_frame.specs.Bytes.{length-element}
use Rattle.hpf_gen.specs.declared.piece.Frames.{Frames}
use Rattle.hpf_gen.specs.Generated.{value, frame_of, frames_of, generated}
use Rattle.hpf_gen.specs.Left.{records_left, elements_left}

-- the records of so many frames from one on, and the end
abbrev so_many : Frames → ℕ → ℕ → List ℕ
so_many frames f n =
    records version_one f (map (frame_of frames.seed frames.size) (range_with_len f n)) ++ end_of frames.count

-- behind the last frame the end is left
pub last_left : (frames : Frames) (f : ℕ) → f ≡ frames.count → records_left frames f ≡ 0 ∷ number f
unfolding end_of
last_left frames f e =
    let none : frames.count - f ≡ 0 = omega (arith, e) in
    ap (so_many frames f) none ∙ ap (λ (n : ℕ). 0 ∷ number n) (sym e)

-- before it a record is
pub record_left : (frames : Frames) (f : ℕ) → f < frames.count → records_left frames f ≡ (1 ∷ number f) ++ (elements_left frames f 0 ++ records_left frames (f + 1))
unfolding record_of
record_left frames f below =
    let more : frames.count - f ≡ suc (frames.count - (f + 1)) = omega arith in
    let values = flat_map (element version_one) (frame_of frames.seed frames.size f) in
    let rest = records version_one (f + 1) (map (frame_of frames.seed frames.size) (range_with_len (f + 1) (frames.count - (f + 1)))) in
    let whole : frames.size - 0 ≡ frames.size = omega arith in
    ap (so_many frames f) more
    ∙ append_assoc ((1 ∷ number f) ++ values) rest (end_of frames.count)
    ∙ append_assoc (1 ∷ number f) values (rest ++ end_of frames.count)
    ∙ ap (λ (n : ℕ). (1 ∷ number f) ++ (flat_map (element version_one) (map (value frames.seed f) (range_with_len 0 n)) ++ records_left frames (f + 1))) (sym whole)

-- a range is cut
cut_range : (a n k : ℕ) → k ≤ n → range_with_len a n ≡ range_with_len a k ++ range_with_len (a + k) (n - k)
cut_range a n zero h =
    let start : a + 0 ≡ a = omega arith in
    let all : n - 0 ≡ n = omega arith in
    sym (ap (λ (b : ℕ). range_with_len b (n - 0)) start ∙ ap (range_with_len a) all)
cut_range a zero (suc k) h = absurd (omega arith)
cut_range a (suc n) (suc k) h =
    let start : a + 1 + k ≡ a + suc k = omega arith in
    let less : suc n - suc k ≡ n - k = omega arith in
    ap (λ (xs : List ℕ). a ∷ xs) (cut_range (a + 1) n k (omega arith) ∙ ap (λ (b : ℕ). range_with_len (a + 1) k ++ range_with_len b (n - k)) start ∙ ap (λ (m : ℕ). range_with_len (a + 1) k ++ range_with_len (a + suc k) m) (sym less))

-- some elements, and those behind them
pub some_left : (frames : Frames) (f k count : ℕ) → k + count ≤ frames.size → elements_left frames f k ≡ flat_map (element version_one) (map (value frames.seed f) (range_with_len k count)) ++ elements_left frames f (k + count)
some_left frames f k count h =
    let g = value frames.seed f in
    let fewer : frames.size - k - count ≡ frames.size - (k + count) = omega arith in
    let xs = range_with_len k count in
    let ys = range_with_len (k + count) (frames.size - (k + count)) in
    ap (λ (zs : List ℕ). flat_map (element version_one) (map g zs)) (cut_range k (frames.size - k) count (omega arith) ∙ ap (λ (n : ℕ). xs ++ range_with_len (k + count) n) fewer)
    ∙ ap (flat_map (element version_one)) (map-append g xs ys)
    ∙ flat_map-append (element version_one) (map g xs) (map g ys)

-- no elements are left behind the last
pub none_left : (frames : Frames) (f k : ℕ) → frames.size ≤ k → elements_left frames f k ≡ []
none_left frames f k h =
    let none : frames.size - k ≡ 0 = omega arith in
    ap (λ (n : ℕ). flat_map (element version_one) (map (value frames.seed f) (range_with_len k n))) none

-- some elements have some bytes
pub some_bytes : (seed f k count : ℕ) → 1 ≤ count → 0 < length (flat_map (element version_one) (map (value seed f) (range_with_len k count)))
some_bytes seed f k zero h = absurd (omega arith)
some_bytes seed f k (suc n) h =
    let v = value seed f k in
    let rest = flat_map (element version_one) (map (value seed f) (range_with_len (k + 1) n)) in
    omega (arith, length-append (element version_one v) rest, length-element v)

-- the whole file: its header, and what is left behind it
pub whole_file : (frames : Frames) (extents : List ℕ) → frames.size ≡ elements extents → header version_one extents ++ records_left frames 0 ≡ generated version_one extents frames.seed frames.count
whole_file frames extents is =
    let all : frames.count - 0 ≡ frames.count = omega arith in
    let n : frames.count ≡ length (frames_of frames.seed (elements extents) frames.count) = sym (length-map-range_with_len (frame_of frames.seed (elements extents)) 0 frames.count) in
    ap (λ (k : ℕ). header version_one extents ++ so_many frames 0 k) all
    ∙ ap (λ (size : ℕ). header version_one extents ++ (records version_one 0 (frames_of frames.seed size frames.count) ++ end_of frames.count)) is
    ∙ sym (append_assoc (header version_one extents) (records version_one 0 (frames_of frames.seed (elements extents) frames.count)) (end_of frames.count))
    ∙ ap (λ (k : ℕ). (header version_one extents ++ records version_one 0 (frames_of frames.seed (elements extents) frames.count)) ++ end_of k) n

-- no bytes, by their number
pub no_bytes : (xs : List ℕ) → length xs ≡ 0 → xs ≡ []
no_bytes [] h = refl
no_bytes (x ∷ xs) h = absurd (omega arith)

-- a front is moved
pub moved_front : (n : ℕ) (old ready new front rest : List ℕ) → old ≡ ready ++ rest → front ≡ take n ready → new ≡ drop n ready → old ≡ front ++ (new ++ rest)
moved_front n old ready new front rest is moved left =
    is ∙ ap (λ (xs : List ℕ). xs ++ rest) (sym (take-append-drop n ready)) ∙ append_assoc (take n ready) (drop n ready) rest
    ∙ ap (λ (xs : List ℕ). xs ++ (drop n ready ++ rest)) (sym moved) ∙ ap (λ (xs : List ℕ). front ++ (xs ++ rest)) (sym left)
