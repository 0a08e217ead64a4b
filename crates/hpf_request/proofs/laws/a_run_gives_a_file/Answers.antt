use Rattle.hpf_request.proofs.Filed.{run_gives_file}
use Rattle.hpf_request.proofs.laws.a_run_gives_a_file.Goals as goal

pub returns : goal.returns
returns c = λ shape pipeline lines frames. run_gives_file shape pipeline lines frames
