-- CALL AFTER CALL a sender writes the transfers of the frame's cut, and then says that there is no more; frame after frame, from one sender.
use Rattle.session_rules.specs.Options.{Stamp}
use Prim.Native.Nat.{ℕ, zero, suc, ◌+◌, ◌-◌, ◌≤◌, ◌<◌}
use mathlib.Core.Path.{◌≡◌, refl, sym, ap, subst, ◌∙◌}
use mathlib.Core.Bool.{Bool, true, false, not}
use mathlib.Core.List.{List, [], ◌∷◌, ◌++◌}
use native.Mathlib.Omega.{arith}
use lib.ListN.{length, take, drop, length-drop, drop_of_length-le}
use lib.Seq.{drop-drop}
use lib.Dec.{leb}
use borrow.Author.Tests.{lt-ltb, le-ltb, le-leb, lt-leb, leb-true, leb-false}
use Rattle.rules.specs.Numbered.{NoneOf}
use Rattle.rules.proofs.Rows.{none_row}
use Rattle.sender.specs.declared.Sender.{Sender}
use Rattle.sender.specs.declared.Sending.TheVariants.{Done, Wrote}
use Rattle.sender.specs.declared.Sent.{Sent}
use Rattle.sender.specs.Header.{size_of, written}
use Rattle.sender.specs.Transfers.{Frame, data_most, is_nil, cut_by, cut}
use Rattle.sender.specs.Send.{next_of, transfer_at, part_size, transfer_size, room_short, frame_rows, send_rows, wrote_of, send_of, room_of, Sends, SendsAll, AllFree}
use Rattle.sender.proofs.Writing.{payload-sound, room_after, transfer-length}

module _ (payload : ℕ) (l : List ℕ) (s : Stamp) (ok : NoneOf (frame_rows (length l) payload s)) where
  abbrev p : ℕ
  p = data_most payload s

  above : size_of s < payload
  above = (payload-sound payload s ok.1.0).0

  -- nothing is left
  done : (x : Sender) → length l ≤ x.at → (room : ℕ) → send_of x l payload s room ≡ record { sender = x; sending = Done }
  unfolding send_of
  done x h room =
      rw (none_row (send_rows x.at (length l) payload s room) (ok.0, (ok.1.0, (sym (room_after x.at (length l) payload s room h), tt))), le-ltb x.at (length l) h) refl

  -- a room of the payload size is enough
  room-enough : (x : Sender) (room : ℕ) → x.at < length l → payload ≤ room → room_short x.at (length l) payload s room ≡ false
  unfolding room_short
  room-enough x room h g = rw (lt-ltb x.at (length l) h) (le-ltb room (transfer_size payload s (length l) x.at) (let z : size_of s < payload = above in omega arith))

  wrote : (x : Sender) → x.at < length l → (room : ℕ) → payload ≤ room → send_of x l payload s room ≡ wrote_of x (length l) payload s
  unfolding send_of
  wrote x h room g = rw (none_row (send_rows x.at (length l) payload s room) (ok.0, (ok.1.0, (room-enough x room h g, tt))), lt-ltb x.at (length l) h) refl

  wrote-room : (x : Sender) → x.at < length l → (room : List ℕ) → payload ≤ length room
      → room_of x l payload s room ≡ transfer_at payload x.fid s l x.at ++ drop (transfer_size payload s (length l) x.at) room
  unfolding room_of
  wrote-room x h room g = rw (wrote x h (length room) g) refl

  -- the transfer is the next of the cut
  nil_is : (m : List ℕ) → is_nil m ≡ leb (length m) 0
  nil_is [] = refl
  nil_is (y ∷ m) = sym (lt-leb (length (y ∷ m)) 0 (omega arith))

  last-is : (at : ℕ) → at ≤ length l → is_nil (drop p (drop at l)) ≡ leb (length l) (at + p)
  last-is at h = go (drop p (drop at l)) (length-drop p (drop at l)) (length-drop at l)
    where
      go : (m : List ℕ) → length m ≡ length (drop at l) - p → length (drop at l) ≡ length l - at → is_nil m ≡ leb (length l) (at + p)
      go [] e f = sym (le-leb (length l) (at + p) (omega arith))
      go (y ∷ m) e f = sym (lt-leb (length l) (at + p) (omega arith))

  rest-is : (at : ℕ) → drop p (drop at l) ≡ drop (at + part_size payload s (length l) at) l
  rest-is at = go (leb p (length l - at)) refl
    where
      go : (b : Bool) → leb p (length l - at) ≡ b → drop p (drop at l) ≡ drop (at + part_size payload s (length l) at) l
      go true e = let z : part_size payload s (length l) at ≡ p = omega (arith, leb-true p (length l - at) e) in drop-drop p at l ∙ ap (λ (k : ℕ). drop (at + k) l) (sym z)
      go false e =
          let z : length l - at < p = leb-false p (length l - at) e in
          drop-drop p at l ∙ drop_of_length-le l {i = at + p} (omega arith) ∙ sym (drop_of_length-le l {i = at + part_size payload s (length l) at} (omega arith))

  abbrev frame : Frame
  frame = record { load = l; stamp = s }

  sends-from : (k : ℕ) (x : Sender) → x.at ≤ length l → length l - x.at ≤ k → (K : Sender → Type 0) → K (record { fid = x.fid; at = length l }) → (m : List ℕ) → drop x.at l ≡ m → Sends payload frame x (cut_by k p x.fid s m) K
  sends-from zero x h g K w m e = let z : length l ≡ x.at = omega arith in (done x (omega arith), rw (← z) w)
  sends-from (suc k) x h g K w [] e =
      let y : length (drop x.at l) ≡ 0 = ap length e in
      let z : length l ≡ x.at = omega (arith, length-drop x.at l) in
      (done x (omega arith), rw (← z) w)
  sends-from (suc k) x h g K w (y ∷ m) e =
      let a : length (drop x.at l) ≡ length (y ∷ m) = ap length e in
      let b : x.at < length l = omega (arith, length-drop x.at l) in
      let q : size_of s < payload = above in
      let next : Sender = (wrote_of x (length l) payload s).sender in
      let same : transfer_at payload x.fid s l x.at ≡ written x.fid (is_nil (drop p (y ∷ m))) s ++ take p (y ∷ m) =
      (λ i. written x.fid (sym (last-is x.at h) i) s ++ take p (drop x.at l)) ∙ ap (λ (z : List ℕ). written x.fid (is_nil (drop p z)) s ++ take p z) e in
      let size = sym (transfer-length payload x.fid s l x.at) ∙ ap length same in
      let more = sends-from k next (omega arith) (omega arith) K w (drop p (y ∷ m)) (sym (rest-is x.at) ∙ ap (drop p) e) in
      λ room u. (
        ap (λ (r : Sent). r.sending) (wrote x b (length room) u) ∙ ap Wrote size,
        wrote-room x b room u ∙ (λ i. same i ++ drop (size i) room),
        subst (λ (r : Sent). Sends payload frame r.sender (cut_by k p x.fid s (drop p (y ∷ m))) K) (sym (wrote x b (length room) u)) more,
      )

-- ONE FRAME to its last transfer
pub sends : (payload : ℕ) (f : Frame) (fid : Bool) → NoneOf (frame_rows (length f.load) payload f.stamp) → (K : Sender → Type 0) → K (record { fid = fid; at = length f.load })
    → Sends payload f (record { fid = fid; at = 0 }) (cut payload fid f) K
sends payload f fid ok K w = sends-from payload f.load f.stamp ok (length f.load) (record { fid = fid; at = 0 }) (omega arith) (omega arith) K w f.load refl

-- FRAME AFTER FRAME from one sender, none of which 80 or 81 refuses
pub sends-all : (payload : ℕ) (fs : List Frame) (fid : Bool) → AllFree payload fs → SendsAll payload (record { fid = fid; at = 0 }) fs
sends-all payload [] fid ok = tt
sends-all payload (f ∷ fs) fid ok = sends payload f fid ok.0 (λ (y : Sender). SendsAll payload (next_of y) fs) (sends-all payload fs (not fid) ok.1)
