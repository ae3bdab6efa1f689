use Rattle.interfaces.proofs.Searching.{steps-in, block-order, block_made}
use Rattle.interfaces.proofs.block_at.Goals as goal

pub next-end-requires : goal.next-end-requires
next-end-requires c = search steps-in

pub overflow_sub-result : goal.overflow_sub-result
overflow_sub-result c = search block-order

pub returns : goal.returns
returns c = search block_made
