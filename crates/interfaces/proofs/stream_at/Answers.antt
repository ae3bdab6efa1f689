use Rattle.interfaces.proofs.Searching.{block_in, stream-made}
use Rattle.interfaces.proofs.stream_at.Goals as goal

pub byte_of-endpoint-requires : goal.byte_of-endpoint-requires
byte_of-endpoint-requires c = search block_in

pub returns : goal.returns
returns c = search stream-made
