use Rattle.hpf_lend.proofs.AfterMeeting.{nothing_waits, took_next, no_home_waits, took_next_home}
use Rattle.hpf_lend.proofs.laws.after_a_meeting.Goals as goal

pub returns-clause-waits : goal.returns-clause-waits
returns-clause-waits c = nothing_waits

pub returns-clause-takes : goal.returns-clause-takes
returns-clause-takes c = took_next

pub returns-clause-waits_for_home : goal.returns-clause-waits_for_home
returns-clause-waits_for_home c = no_home_waits

pub returns-clause-takes_back : goal.returns-clause-takes_back
returns-clause-takes_back c = took_next_home
