use Rattle.session_words.specs.Told.{refused_told}
use mathlib.Core.Path.{refl, ap, ◌∙◌}
use Rattle.host_session.proofs.packets.missed.Goals as goal

pub is_sound-requires : goal.is_sound-requires
is_sound-requires c = c.lost-k.ensures.m_len

pub returns : goal.returns
returns c = λ b. record { told = c.refused.ensures ∙ ap refused_told c.lost-k.ensures.value; numbers = c.lost-k.ensures.m_after; words = c.lost-k.ensures.w_after; buffer = refl; sound = c.is_sound.ensures; places = c.lost-k.ensures.m_len }
