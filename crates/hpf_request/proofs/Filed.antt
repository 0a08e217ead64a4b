-- What a run gives is a file.
use Rattle.std.proofs.Common.{◌≡◌, ℕ, ◌+◌, ℤ, List, [], ◌∷◌, ◌++◌, length, map, refl, sym, ap, ◌∙◌}
use Rattle.std.proofs.lemmas.List.{length-map}
use Rattle.hpf_frame.specs.FrameFile.{Shape, header, record_of, records, end_of}
use Rattle.hpf_stream.specs.Flow.{bodies, whole}
use Rattle.hpf_request.specs.Pipeline.{Pipeline, folded, output_file, run_flow}

bodies_are_records : (shape : Shape) (pipeline : Pipeline) (lines : List (List ℤ) → List ℕ) (number : ℕ) (frames : List (List ℤ)) → bodies (run_flow pipeline lines) shape number frames ≡ records shape number (map (folded pipeline.stages) frames)
bodies_are_records shape pipeline lines number [] = refl
bodies_are_records shape pipeline lines number (frame ∷ frames) =
    ap (λ (bs : List ℕ). record_of shape number (folded pipeline.stages frame) ++ bs) (bodies_are_records shape pipeline lines (number + 1) frames)

pub run_gives_file : (shape : Shape) (pipeline : Pipeline) (lines : List (List ℤ) → List ℕ) (frames : List (List ℤ)) → whole (run_flow pipeline lines) shape frames ≡ output_file shape pipeline frames
run_gives_file shape pipeline lines frames =
    ap (λ (bs : List ℕ). (header shape pipeline.leaves ++ bs) ++ end_of (length frames)) (bodies_are_records shape pipeline lines 0 frames)
    ∙ ap (λ (n : ℕ). (header shape pipeline.leaves ++ records shape 0 (map (folded pipeline.stages) frames)) ++ end_of n) (sym (length-map frames (folded pipeline.stages)))
