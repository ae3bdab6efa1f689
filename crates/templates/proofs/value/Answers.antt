use Rattle.templates.proofs.Fields.{number_put, text-put}
use Rattle.templates.specs.Values.{hex_text, rate_text, letter_text}
use mathlib.Core.Path.{ap, ◌∙◌}
use Rattle.configuration_rules.specs.Descriptors.{packet_bytes}
use Rattle.templates.proofs.value.Goals as goal

pub returns-in-Byte : goal.returns-in-Byte
returns-in-Byte c = let both = number_put _ _ c.byte_of.ensures c.digits.ensures.put c.digits.ensures.upper_bound in record { put = rw c.in-Byte.is both.0; upper_bound = both.1 }

pub returns-in-Word : goal.returns-in-Word
returns-in-Word c = let both = number_put _ _ c.word_at.ensures c.digits-in-Word.ensures.put c.digits-in-Word.ensures.upper_bound in record { put = rw c.in-Word.is both.0; upper_bound = both.1 }

pub returns-in-Long : goal.returns-in-Long
returns-in-Long c = let both = number_put _ _ c.long_at.ensures c.digits-in-Long.ensures.put c.digits-in-Long.ensures.upper_bound in record { put = rw c.in-Long.is both.0; upper_bound = both.1 }

pub returns-in-Packet : goal.returns-in-Packet
returns-in-Packet c = let both = number_put _ _ (c.packet_bytes.ensures ∙ ap packet_bytes c.word_at-in-Packet.ensures) c.digits-in-Packet.ensures.put c.digits-in-Packet.ensures.upper_bound in record { put = rw c.in-Packet.is both.0; upper_bound = both.1 }

pub returns-in-Hex : goal.returns-in-Hex
returns-in-Hex c = let both = text-put hex_text _ _ c.byte_of-in-Hex.ensures c.hex.ensures.put c.hex.ensures.upper_bound in record { put = rw c.in-Hex.is both.0; upper_bound = both.1 }

pub returns-in-Rate : goal.returns-in-Rate
returns-in-Rate c = let both = text-put rate_text _ _ c.long_at-in-Rate.ensures c.rate.ensures.put c.rate.ensures.upper_bound in record { put = rw c.in-Rate.is both.0; upper_bound = both.1 }

pub returns-in-Letter : goal.returns-in-Letter
returns-in-Letter c = let both = text-put letter_text _ _ c.byte_of-in-Letter.ensures c.letter.ensures.put c.letter.ensures.upper_bound in record { put = rw c.in-Letter.is both.0; upper_bound = both.1 }
