-- What the functions have, in the order of their code.
use Rattle.std.specs.Prelude.{None, Some}
use Rattle.session_rules.specs.Options.{Stamp}
use Prim.Native.Nat.{ℕ, ◌≤◌, ◌<◌}
use mathlib.Core.Path.{◌≡◌, refl}
use mathlib.Core.List.{List, [], ◌∷◌}
use lib.ListN.{length, get_or}
use borrow.Author.Tests.{lt-ltb, le-ltb, eq-eqb, ne_eqb}
use Rattle.rules.specs.IfElse.{if_else}
use Rattle.sender.specs.Send.{new_sender, next_of, send_of, room_of}
use Rattle.sender.specs.declared.Sender.{Sender}
use Rattle.sender.specs.declared.Sending.{Sending}
use Rattle.sender.specs.declared.Sending.TheVariants.{Refused, Done, Wrote}
use Rattle.sender.specs.declared.Sent.{Sent}
use Rattle.host_told.specs.Told.{unknown}
use Rattle.host_sender.specs.Words.{one_of, words_of, sender_in, stamp_in, sending_told, unsound_told, worked_told, worked_words, worked_room, sent_told, words_left, room_left, next_told, next_left}
use Rattle.host_sender.specs.declared.SentTold.{SentTold}

pub stamp-none : (a x : ℕ) → a ≡ 0 → None ≡ stamp_in a x
unfolding stamp_in if_else
stamp-none a x e = rw (eq-eqb a 0 e)

pub stamp-some : (a x : ℕ) → (a ≡ 0 → ⊥) → Some x ≡ stamp_in a x
unfolding stamp_in if_else
stamp-some a x e = rw (ne_eqb a 0 e)

pub refused-told : (a : Sending) (k : ℕ) → a ≡ Refused k → record { number = k; zero = 0; length = 0 } ≡ sending_told a
refused-told a k e = rw e

pub done-told : (a : Sending) → a ≡ Done → record { number = 0; zero = 0; length = 0 } ≡ sending_told a
done-told a e = rw e

pub wrote-told : (a : Sending) (n : ℕ) → a ≡ Wrote n → record { number = 0; zero = 0; length = n } ≡ sending_told a
wrote-told a n e = rw e

pub put-words : (x : Sender) (a : ℕ) → a ≡ one_of x.fid → (a ∷ x.at ∷ []) ≡ words_of x
put-words x a e = rw e

module _ (w : List ℕ) where
  pub next-unsound : 1 < get_or w 0 0 → (unknown ≡ next_told w) × (w ≡ next_left w)
  unfolding next_told next_left if_else
  next-unsound h = rw (lt-ltb 1 (get_or w 0 0) h) (refl, refl)

  pub next-sound : get_or w 0 0 ≤ 1 → (x y : Sender) → x ≡ sender_in w → y ≡ next_of x → (left : List ℕ) → left ≡ words_of y → (0 ≡ next_told w) × (left ≡ next_left w)
  unfolding next_told next_left if_else
  next-sound h x y e f left l = rw (le-ltb 1 (get_or w 0 0) h) (refl, rw (f, e) at l)

module _ (w frame : List ℕ) (payload : ℕ) (s : Stamp) (room : List ℕ) where
  pub unsound-call : 1 < get_or w 0 0 → (r : SentTold) → r ≡ unsound_told → (r ≡ sent_told w frame payload s room) × ((w ≡ words_left w frame payload s room) × (room ≡ room_left w frame payload s room))
  unfolding sent_told words_left room_left if_else
  unsound-call h r e = rw (lt-ltb 1 (get_or w 0 0) h) (e, (refl, refl))

  module _ (h : get_or w 0 0 ≤ 1) where
    pub sound-call : (t : Stamp) → t ≡ s → (r : SentTold) (x y : List ℕ) → r ≡ worked_told w frame payload t room → x ≡ worked_words w frame payload t room → y ≡ worked_room w frame payload t room
        → (r ≡ sent_told w frame payload s room) × ((x ≡ words_left w frame payload s room) × (y ≡ room_left w frame payload s room))
    unfolding sent_told words_left room_left if_else
    sound-call t g r x y a b c = rw (le-ltb 1 (get_or w 0 0) h, ← g) (a, (b, c))

  pub worked : (x : Sender) → x ≡ sender_in w → (sent : Sent) (y : List ℕ) → sent ≡ send_of x frame payload s (length room) → y ≡ room_of x frame payload s room
      → (left : List ℕ) → left ≡ words_of sent.sender → (r : SentTold) → r ≡ sending_told sent.sending
      → (r ≡ worked_told w frame payload s room) × ((left ≡ worked_words w frame payload s room) × (y ≡ worked_room w frame payload s room))
  worked x e sent y f g left l r k = rw (← e, ← f) (k, (l, g))

pub opened : (x : Sender) → x ≡ new_sender → (left : List ℕ) → left ≡ words_of x → left ≡ words_of new_sender
opened x e left l = rw e at l
