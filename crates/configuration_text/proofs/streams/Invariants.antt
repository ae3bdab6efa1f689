use Rattle.configuration_text.specs.Texts.{stream_text, stream_most}
use Rattle.configuration_text.proofs.Lines.{Streamed}
use Rattle.configuration_text.proofs.streams.Given as goal

abbrev pub invariant-loop-i : goal.invariant-loop-i
invariant-loop-i l = Streamed (stream_text l.s) l.all stream_most l.n l.initial.buf l.start l.i l.at l.buf
