-- The name that is handed over with the take is the take's own.
use Rattle.firmware.proofs.Following.{loaded_name}
use Rattle.firmware.proofs.tashmirok_shape.Goals as goal

pub bad_state-requires : goal.bad_state-requires
bad_state-requires c = search loaded_name
