-- The library's number of the bytes there.
use Rattle.words.proofs.Words.{got8}
use Rattle.words.proofs.get8.Goals as goal

pub returns : goal.returns
returns c = got8 c.args.d.now c.args.a _ _ c.copy_from_slice.ensures.after c.from_le_bytes.ensures
