-- A header whose name was looked at before: there is nothing to believe here.
use Rattle.std.specs.Prelude.{replicate}
use Rattle.wire_rules.specs.declared.Header.{Header}

-- a header with zeros for its name
abbrev pub unnamed : Header → Header
unnamed h = record { rate = h.rate; frames = h.frames; channels = h.channels; format = h.format; name = replicate 16 0; counter = h.counter }
