-- A pipeline: frames enter it, go through its stages, and leave the last one. This project defines it.
use Rattle.std.specs.Prelude.{ℕ, ℤ, List, [], ◌∷◌, map}
use Rattle.hpf_frame.specs.FrameFile.{Shape, header, record_of, end_of, file_of}
use Rattle.hpf_stream.specs.Flow.{Flow}
use Rattle.hpf_request.specs.Form.{Form}
use Rattle.hpf_request.specs.MarkLines.{mark_lines}

-- what a stage does with the frame that enters it: nothing, so far
pub data Operation : Type 0 where
  Plain : Operation

abbrev pub applied : Operation → List ℤ → List ℤ
applied Plain frame = frame

-- the frame that leaves the last of these stages
abbrev pub folded : List Operation → List ℤ → List ℤ
folded [] frame = frame
folded (stage ∷ stages) frame = folded stages (applied stage frame)

-- the extents of the array of the first stage and of the last, and the stages' operations
pub record Pipeline : Type 0 where
  pub enters : List ℕ
  pub leaves : List ℕ
  pub stages : List Operation

-- one stage with no operation, over an array with these extents
abbrev pub one_stage : List ℕ → Pipeline
one_stage extents = record { enters = extents; leaves = extents; stages = Plain ∷ [] }

-- the file of the frames that leave
abbrev pub output_file : Shape → Pipeline → List (List ℤ) → List ℕ
output_file shape pipeline frames = file_of shape pipeline.leaves (map (folded pipeline.stages) frames)

-- what a run gives: a frame file of what leaves for the frames that enter, and these lines of marks
abbrev pub run_flow : Pipeline → (List (List ℤ) → List ℕ) → Flow
run_flow pipeline lines = record {
  enters = pipeline.enters;
  front = λ shape. header shape pipeline.leaves;
  frame = λ shape number frame. record_of shape number (folded pipeline.stages frame);
  close = λ shape count. end_of count;
  lines = lines;
}

-- what the run of a form gives: its frames as they came, and the lines of the marks of its parts
abbrev pub flow_of : Form → Flow
flow_of form = run_flow (one_stage form.extents) (mark_lines form.parts)
