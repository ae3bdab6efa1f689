use Rattle.host_session.proofs.Urb.{Under}
use Rattle.host_session.proofs.packets.palkodhen_session_packets.Given as goal

abbrev pub invariant-loop-k : goal.invariant-loop-k
invariant-loop-k l =
    Under l.initial.m l.initial.w l.initial.buffer l.bytes l.stride l.lengths l.m l.w l.buffer l.known l.at l.k
