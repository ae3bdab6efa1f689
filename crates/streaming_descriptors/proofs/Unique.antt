-- One answer of each public function: any two that its promise allows are equal.
use Prim.Native.Nat.{ℕ}
use mathlib.Core.Path.{◌≡◌, sym, ◌∙◌}
use mathlib.Core.List.{List}
use mathlib.Core.Bool.{Bool}
use Rattle.streaming_descriptors.specs.Descriptors.{kind_of, format_layout, shape, is_format, is_frame, format_of, no_format, no_frame, format_at, frame_at}
use Rattle.streaming_descriptors.specs.declared.Kind.{Kind}
use Rattle.streaming_descriptors.specs.declared.Layout.{Layout}
use Rattle.streaming_descriptors.specs.declared.Format.{Format}
use Rattle.streaming_descriptors.specs.declared.Frame.{Frame}

pub kind-of-unique : (n : ℕ) (x y : Kind) → x ≡ kind_of n → y ≡ kind_of n → x ≡ y
kind-of-unique n x y p q = p ∙ sym q

pub is-format-unique : (k : Kind) (x y : Bool) → x ≡ is_format k → y ≡ is_format k → x ≡ y
is-format-unique k x y p q = p ∙ sym q

pub is-frame-unique : (k : Kind) (x y : Bool) → x ≡ is_frame k → y ≡ is_frame k → x ≡ y
is-frame-unique k x y p q = p ∙ sym q

pub format-of-unique : (k : Kind) (x y : ℕ) → x ≡ format_of k → y ≡ format_of k → x ≡ y
format-of-unique k x y p q = p ∙ sym q

pub no-format-unique : (x y : Format) → x ≡ no_format → y ≡ no_format → x ≡ y
no-format-unique x y p q = p ∙ sym q

pub no-frame-unique : (x y : Frame) → x ≡ no_frame → y ≡ no_frame → x ≡ y
no-frame-unique x y p q = p ∙ sym q

pub format-at-unique : (f : ℕ) (s : List ℕ) (o : ℕ) (x y : Format) → x ≡ format_at f s o → y ≡ format_at f s o → x ≡ y
format-at-unique f s o x y p q = p ∙ sym q

pub frame-at-unique : (f n : ℕ) (s : List ℕ) (o : ℕ) (x y : Frame) → x ≡ frame_at f n s o → y ≡ frame_at f n s o → x ≡ y
frame-at-unique f n s o x y p q = p ∙ sym q

pub layout-of-unique : (f : ℕ) (x y : Layout) → x ≡ format_layout f → y ≡ format_layout f → x ≡ y
layout-of-unique f x y p q = p ∙ sym q

pub shape-ok-unique : (k : Kind) (s : List ℕ) (o : ℕ) (x y : Bool) → x ≡ shape k s o → y ≡ shape k s o → x ≡ y
shape-ok-unique k s o x y p q = p ∙ sym q
