use borrow.Author.Tests.{eqb-true}
use Rattle.session_words.proofs.Plain.{never, plainly}
use Rattle.session_words.proofs.words.is_plain.Goals as goal

pub returns-then-w-gt3 : goal.returns-then-w-gt3
returns-then-w-gt3 c = λ q. absurd (never q)

pub returns-then-w-gt255 : goal.returns-then-w-gt255
returns-then-w-gt255 c = λ q. absurd (never q)

pub returns-then-w-gt4294967295 : goal.returns-then-w-gt4294967295
returns-then-w-gt4294967295 c = λ q. absurd (never q)

pub returns-then-w-gt4294967296 : goal.returns-then-w-gt4294967296
returns-then-w-gt4294967296 c = λ q. absurd (never q)

pub returns-then-w-gt4294967296-2 : goal.returns-then-w-gt4294967296-2
returns-then-w-gt4294967296-2 c = λ q. absurd (never q)

pub returns : goal.returns
returns c = λ q. plainly c.args.w.now c.requires c.if-w-gt3.false c.if-w-gt255.false c.if-w-gt4294967295.false c.if-w-gt4294967296.false c.if-w-gt4294967296-2.false (eqb-true _ _ q)
