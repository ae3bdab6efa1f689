-- P samples of transfers, each the first of a fresh session with the ledger program's sizes: what becomes of it.
use Rattle.std.specs.Prelude.{None, Some}
use Prim.Native.Nat.{ℕ}
use mathlib.Core.Path.{◌≡◌, refl}
use mathlib.Core.Bool.{false}
use mathlib.Core.List.{List, [], ◌∷◌}
use Rattle.rules.specs.IfElse.{if_else}
use Rattle.rules.specs.Numbered.{any_below}
use Rattle.sizes.specs.Sizes.{frame_size_broken, payload_size_broken, sizes_broken}
use Rattle.sizes.specs.Framing.{by_eof}
use Rattle.session_rules.specs.Layouts.{header_layout}
use Rattle.session_rules.specs.Transfer.{flag_of, layer_place, need_of, rows_by, stamp_of, layer_of, header_by, reading_of}
use Rattle.session_rules.proofs.HeaderSamples.{opening}
use Rattle.session_rules.specs.declared.Phase.TheVariants.{Under}
use Rattle.session_rules.specs.declared.Fate.{Fate}
use Rattle.session_rules.specs.Ledger.{no_ledger, shown_of}
use Rattle.session_rules.specs.declared.Outcome.{Outcome}
use Rattle.session_rules.specs.declared.Session.{Session}
use Rattle.session_rules.specs.Session.{fresh, read_of, plainly, took_of, hands_out, take_of}
use Rattle.session_rules.specs.Turns.{turn_of, hands_of}
use Rattle.session_rules.specs.Rule50.{rule50, fill_broken, accounts_broken, counts_broken}

abbrev fate : List ℕ → Outcome
fate t = (take_of (fresh opening) 256 t).outcome

-- 02 80 kept; 03 80 is 64; 02 00 is 66; 0B 8C and nine bytes is 65; 0C 8C and ten bytes kept
pub record Table : Type 0 where
  pub bare : fate (0x02 ∷ 0x80 ∷ []) ≡ Outcome.Taken (plainly Fate.Kept)
  pub past_end : fate (0x03 ∷ 0x80 ∷ []) ≡ Outcome.Taken (plainly (Fate.Unreadable 64))
  pub without_end : fate (0x02 ∷ 0x00 ∷ []) ≡ Outcome.Taken (plainly (Fate.Unreadable 66))
  pub short-of-clock : (a b c d e f g h i : ℕ) → fate (0x0B ∷ 0x8C ∷ a ∷ b ∷ c ∷ d ∷ e ∷ f ∷ g ∷ h ∷ i ∷ []) ≡ Outcome.Taken (plainly (Fate.Unreadable 65))
  pub with-clock : (a b c d e f g h i j : ℕ) → fate (0x0C ∷ 0x8C ∷ a ∷ b ∷ c ∷ d ∷ e ∷ f ∷ g ∷ h ∷ i ∷ j ∷ []) ≡ Outcome.Taken (plainly Fate.Kept)

pub table : Table
unfolding take_of took_of hands_out hands_of by_eof read_of turn_of reading_of header_layout header_by stamp_of layer_of rows_by need_of layer_place flag_of if_else any_below rule50 sizes_broken fill_broken accounts_broken counts_broken shown_of frame_size_broken payload_size_broken
table =
    record {
      bare = refl;
      past_end = refl;
      without_end = refl;
      short-of-clock = λ a b c d e f g h i. refl;
      with-clock = λ a b c d e f g h i j. refl;
    }

-- A forged record of the old kind, with a frame under way that has a layer: it is taken as it stands.
abbrev forged : Session
forged =
    record {
      rest =
          record {
            opening = opening;
            closed = false;
            taken = 10;
            track =
                record {
                  phase = Under (record { bytes = 2; fill = 2; stamp = None; fid = false; still = false; fault = None; layer = Some 5 });
                  gap = false;
                };
            last = None;
          };
      numbers = no_ledger.numbers;
    }

pub forged-layer : (take_of forged 256 (0x02 ∷ 0x82 ∷ 0xAA ∷ [])).outcome
    ≡ Outcome.Taken (plainly (Fate.Delivered (record { len = 3; stamp = None; layer = Some 5 })))
unfolding take_of took_of hands_out hands_of by_eof read_of turn_of reading_of header_layout header_by stamp_of layer_of rows_by need_of layer_place flag_of if_else any_below rule50 sizes_broken fill_broken accounts_broken counts_broken shown_of frame_size_broken payload_size_broken
forged-layer = refl
