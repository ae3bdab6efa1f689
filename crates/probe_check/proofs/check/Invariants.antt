use Rattle.rules.proofs.Places.{Seeking}
use Rattle.streaming.proofs.Inside.{FramesHeld}
use Rattle.probe_check.specs.Answer.{has_number, frame_in}
use Rattle.probe_check.proofs.check.Given as goal

abbrev pub invariant-loop-i : goal.invariant-loop-i
invariant-loop-i l = Seeking (λ j. has_number l.block l.format l.number (frame_in l.a.frames j)) l.n l.i × FramesHeld l.block l.a
