use Rattle.hpf_report.proofs.Gathering.{all_left}
use Rattle.hpf_report.proofs.route.route_text.Goals as goal

pub returns : goal.returns
returns g c = all_left c.in_ok-gather_route.ensures c.new-gathered.ensures c.give.ensures
