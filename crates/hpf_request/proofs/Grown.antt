-- What the parts of all processors keep.
use Rattle.std.proofs.Common.{◌≡◌, ℕ, ◌≤◌, ℤ, List, [], ◌∷◌, ◌++◌, length, map, take, drop, refl, sym, ap, ◌∙◌, arith, subst}
use Rattle.std.specs.List.{All}
use Rattle.std.proofs.lemmas.List.{take_all, drop_all, append-nil, length-map}
use Rattle.std.proofs.lemmas.List.Elements.{All-map, All-same}
use Rattle.hpf_frame.specs.FrameFile.{elements}
use Rattle.hpf_request.specs.Parts.{Holding, AreParts, HaveTaken, IsWithin, holding_of, marked_by, places}
use Rattle.hpf_request.proofs.Weights.{mark_of-push}

grown_each : (frames : List (List ℤ)) (frame : List ℤ) (lists : List (List ℕ)) → map (marked_by (length frames) frame) (map (holding_of frames) lists) ≡ map (holding_of (frames ++ frame ∷ [])) lists
grown_each frames frame [] = refl
grown_each frames frame (positions ∷ lists) =
    ap (λ (m : ℕ). (let part : Holding = record { positions = positions; mark = m } in part) ∷ map (marked_by (length frames) frame) (map (holding_of frames) lists)) (sym (mark_of-push positions frames frame))
    ∙ ap (λ (parts : List Holding). holding_of (frames ++ frame ∷ []) positions ∷ parts) (grown_each frames frame lists)

-- a mark moves no place
pub places-marked : (number : ℕ) (frame : List ℤ) (parts : List Holding) → places (map (marked_by number frame) parts) ≡ places parts
places-marked number frame [] = refl
places-marked number frame (part ∷ parts) = ap (λ (rest : List (List ℕ)). part.positions ∷ rest) (places-marked number frame parts)

pub places-parts : (frames : List (List ℤ)) (lists : List (List ℕ)) → places (map (holding_of frames) lists) ≡ lists
places-parts frames [] = refl
places-parts frames (positions ∷ lists) = ap (λ (rest : List (List ℕ)). positions ∷ rest) (places-parts frames lists)

-- the parts take in a frame
AreParts-push : (number : ℕ) (frames : List (List ℤ)) (frame : List ℤ) (old new : List Holding) → AreParts (places old) frames old → length frames ≡ number → new ≡ map (marked_by number frame) old → AreParts (places new) (frames ++ frame ∷ []) new
AreParts-push number frames frame old new are many is =
    let same : places new ≡ places old = ap places is ∙ places-marked number frame old in
    subst (λ (lists : List (List ℕ)). AreParts lists (frames ++ frame ∷ []) new) (sym same)
    (record {
      in_order =
          is
          ∙ (ap (λ (m : ℕ). map (marked_by m frame) old) (sym many)
          ∙ (ap (λ (parts : List Holding). map (marked_by (length frames) frame) parts) are.in_order
          ∙ grown_each frames frame (places old)));
    })

-- the parts of a list of places
pub AreParts-places : (lists : List (List ℕ)) (frames : List (List ℤ)) (parts : List Holding) → AreParts lists frames parts → places parts ≡ lists
AreParts-places lists frames parts are = ap places are.in_order ∙ places-parts frames lists

-- parts that are marked stay within a frame
within-marked : (number u : ℕ) (frame : List ℤ) (parts : List Holding) → All (IsWithin u) parts → All (IsWithin u) (map (marked_by number frame) parts)
within-marked number u frame parts all = All-map (IsWithin u) (marked_by number frame) parts all

-- the parts have taken in one frame more
pub HaveTaken-push : (extents : List ℕ) (number : ℕ) (frames : List (List ℤ)) (frame : List ℤ) (old new : List Holding)
    → HaveTaken extents old frames → length frames ≡ number → new ≡ map (marked_by number frame) old → HaveTaken extents new (frames ++ frame ∷ [])
HaveTaken-push extents number frames frame old new taken many is = record {
  extents_are = taken.extents_are;
  procs = omega (arith, taken.procs, ap length is, length-map old (marked_by number frame));
  within = All-same (IsWithin (elements extents)) new (map (marked_by number frame) old) is (within-marked number _ frame old taken.within);
  parts_are = AreParts-push number frames frame old new taken.parts_are many is;
}

-- the parts at the end of a loop that writes over them
pub all_written : (f : Holding → Holding) (xs ys : List Holding) (i : ℕ) → length xs ≤ i → ys ≡ map f (take i xs) ++ drop i xs → ys ≡ map f xs
all_written f xs ys i past is =
    is
    ∙ (ap (λ (zs : List Holding). map f zs ++ drop i xs) (take_all i xs past)
    ∙ (ap (λ (zs : List Holding). map f xs ++ zs) (drop_all i xs past) ∙ append-nil (map f xs)))
