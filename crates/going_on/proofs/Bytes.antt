-- A transfer whose bytes go on with the frame is readable, and goes on with it.
use Prim.Native.Nat.{ℕ, ◌+◌, ◌/◌, ◌%◌, ◌^◌, ◌≤◌}
use mathlib.Core.Path.{◌≡◌, refl, sym, ap, ◌∙◌}
use mathlib.Core.Bool.{Bool, true, false, ◌&&◌, true≢false}
use mathlib.Core.List.{List}
use native.Mathlib.Omega.{arith}
use lib.Bits.{bit_and, and_mask, and_shr, and_mod}
use lib.ListN.{length}
use lib.Dec.{leb, eqb}
use borrow.Author.Tests.{leb-true, le-ltb, le-leb, not-true}
use Rattle.rules.specs.Numbered.{NoneOf}
use Rattle.rules.proofs.Rows.{and_first, and_second}
use Rattle.sizes.specs.declared.Opening.{Opening}
use Rattle.sizes.specs.declared.HeaderKind.{HeaderKind}
use Rattle.sizes.specs.declared.HeaderKind.TheVariants.{Old, Vp8}
use Rattle.sizes.specs.Framing.{by_eof}
use Rattle.session_rules.specs.declared.Reading.TheVariants.{Readable}
use Rattle.session_rules.specs.declared.Run.{Run}
use Rattle.session_rules.specs.Layouts.{header_layout}
use Rattle.session_rules.specs.Transfer.{flag_of, flags_at, length_at, layer_place, need_of, stamp_of, rows_by, reading_of}
use Rattle.session_rules.specs.OldKind.{old_flags, old_header}
use Rattle.session_rules.specs.Turns.{same_of, clash_of}
use Rattle.session_rules.proofs.Laid.{flags-one}
use Rattle.session_rules.proofs.Readings.{readable-exactly}
use Rattle.session_rules.proofs.OldKind.{old-kind}
use Rattle.going_on.specs.GoingOn.{is_sound, goes_on}
use Rattle.going_on.specs.Bytes.{is_old, compared, marks_of, is_marked, data_of, bytes_go_on}
use Rattle.going_on.proofs.Checks.{Marked, marked}

-- ---- a bit that is compared is that of the flag byte
flag-and : (x y j : ℕ) → y / 2 ^ j % 2 ≡ 1 → flag_of (bit_and x y) j ≡ flag_of x j
unfolding flag_of
flag-and x y j e =
    ap (λ (k : ℕ). eqb (k % 2) 1) (and_shr x y j)
    ∙ ap (λ (k : ℕ). eqb k 1) (and_mod (x / 2 ^ j) (y / 2 ^ j) 1 ∙ ap (λ (k : ℕ). bit_and (x / 2 ^ j % 2) k) e ∙ and_mask (x / 2 ^ j % 2) 1 ∙ once (x / 2 ^ j))
  where
    once : (n : ℕ) → n % 2 % 2 ≡ n % 2
    once n = omega arith

record Flags (x : ℕ) (fid still : Bool) : Type 0 where
  d0 : flag_of x 0 ≡ fid
  d1 : flag_of x 1 ≡ false
  d5 : flag_of x 5 ≡ still
  d6 : flag_of x 6 ≡ false
  d7 : flag_of x 7 ≡ true

flags-are : (x : ℕ) (fid still : Bool) → bit_and x compared ≡ marks_of fid still → Flags x fid still
unfolding flag_of
flags-are x fid still e =
    record {
      d0 = bit 0 refl ∙ (here fid still).0;
      d1 = bit 1 refl ∙ (here fid still).1.0;
      d5 = bit 5 refl ∙ (here fid still).1.1.0;
      d6 = bit 6 refl ∙ (here fid still).1.1.1.0;
      d7 = bit 7 refl ∙ (here fid still).1.1.1.1;
    }
  where
    bit : (j : ℕ) → compared / 2 ^ j % 2 ≡ 1 → flag_of x j ≡ flag_of (marks_of fid still) j
    bit j q = sym (flag-and x compared j q) ∙ ap (λ (k : ℕ). flag_of k j) e

    here : (f s : Bool) → (flag_of (marks_of f s) 0 ≡ f) × ((flag_of (marks_of f s) 1 ≡ false) × ((flag_of (marks_of f s) 5 ≡ s) × ((flag_of (marks_of f s) 6 ≡ false) × (flag_of (marks_of f s) 7 ≡ true))))
    here true true = (refl, (refl, (refl, (refl, refl))))
    here true false = (refl, (refl, (refl, (refl, refl))))
    here false true = (refl, (refl, (refl, (refl, refl))))
    here false false = (refl, (refl, (refl, (refl, refl))))

-- ---- what the code asked, test by test
old-is : (k : HeaderKind) → is_old k ≡ true → k ≡ Old
old-is Old e = refl
old-is Vp8 e = absurd (true≢false (sym e))

pub record Asked (o : Opening) (r : Run) (t : List ℕ) : Type 0 where
  pub kind : o.kind ≡ Old
  pub sound : is_sound r.fault ≡ true
  pub header : Marked r.fid r.still o.payload t
  pub fits : r.fill + data_of t ≤ o.frame
  pub clash : clash_of r.stamp (stamp_of (header_layout Old) t (old_flags t)) ≡ false

pub asked : (o : Opening) (r : Run) (t : List ℕ) → bytes_go_on o r t ≡ true → Asked o r t
unfolding bytes_go_on
asked o r t e0 =
    let e1 = and_second (is_old o.kind) _ e0 in
    let e2 = and_second (is_sound r.fault) _ e1 in
    let e3 = and_second (is_marked r.fid r.still o.payload t) _ e2 in
    let e4 = and_second (leb (r.fill + data_of t) o.frame) _ e3 in
    record {
      kind = old-is o.kind (and_first _ _ e0);
      sound = and_first _ _ e1;
      header = marked r.fid r.still o.payload t (and_first _ _ e2);
      fits = leb-true (r.fill + data_of t) o.frame (and_first _ _ e3);
      clash = not-true _ e4;
    }

-- ---- the transfer is readable
old-flags : (t : List ℕ) → flags_at (header_layout Old) t ≡ old_flags t
unfolding header_layout
old-flags t = sym (flags-one (header_layout Old) t refl)

least-need : (flags : ℕ) → 2 ≤ need_of (header_layout Old) flags
unfolding header_layout need_of layer_place
least-need flags = omega arith

module _ (o : Opening) (r : Run) (t : List ℕ) (e : bytes_go_on o r t ≡ true) where
  given : Asked o r t
  given = asked o r t e

  flags : Flags (old_flags t) r.fid r.still
  flags = flags-are (old_flags t) r.fid r.still given.header.marks

  whole : NoneOf (rows_by (header_layout Old) o.payload t)
  unfolding rows_by header_layout
  whole =
      let h = given.header in
      rw (old-flags t, flags.d7) (
        le-ltb (length t) 2 h.two,
        (
          le-ltb o.payload (length t) h.short,
          (
            le-ltb (length_at t) 2 (omega (arith, least-need (old_flags t), h.holds)),
            (
              le-ltb (length t) (length_at t) h.inside,
              (
                le-ltb (length_at t) (need_of (header_layout Old) (old_flags t)) h.holds,
                (
                  refl,
                  (refl, tt),
                ),
              ),
            ),
          ),
        ),
      )

  pub bytes_read : reading_of o t ≡ Readable (old_header t)
  bytes_read =
      (readable-exactly o t (old_header t)).1 (record {
        bytes = omega (arith, given.header.two);
        whole = rw given.kind whole;
        header = sym ((old-kind o given.kind).header t);
      })

  -- and goes on with the frame, whose fill is its bytes
  same : (b : Bool) → same_of b b ≡ true
  same true = refl
  same false = refl

  and-false : (b : Bool) → (b && false) ≡ false
  and-false true = refl
  and-false false = refl

  pub bytes-go-on : r.fill ≡ r.bytes → goes_on o r (old_header t) (data_of t) ≡ true
  unfolding goes_on stamp_of header_layout
  bytes-go-on f =
      rw (given.sound, flags.d0, same r.fid, flags.d5, same r.still, flags.d1, and-false (by_eof o), flags.d6, given.clash)
      (le-leb (r.bytes + data_of t) o.frame (omega (arith, f, given.fits)))
