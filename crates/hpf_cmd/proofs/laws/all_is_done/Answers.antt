use Rattle.std.proofs.Common.{refl}
use Rattle.hpf_cmd.proofs.SureEnds.{map_is_held, still_tells, still_granted, never_rises}
use Rattle.hpf_cmd.proofs.laws.all_is_done.Goals as goal

pub returns : goal.returns
returns g c = λ words before after was now end deed text lines came none few granted due out_room notes_room.
    let held = map_is_held c.one_asking.ensures words before _ deed refl none few granted in
    let loads = came.loads (λ fault. let f = came.load_fault fault in held f.asked f.name f.asks f.could) in
    let told = still_tells before after few loads.counted came.kept in
    came.sure deed text lines (still_granted _ _ _ deed told granted) held due
    (record { frames = λ _. never_rises; out = out_room; notes = λ _. notes_room })
