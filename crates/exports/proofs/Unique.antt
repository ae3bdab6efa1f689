-- The promise of each function leaves one answer.
use Prim.Native.Nat.{ℕ}
use mathlib.Core.Path.{◌≡◌, sym, ap, ◌∙◌}
use mathlib.Core.List.{List}
use Rattle.sizes.specs.declared.Opening.{Opening}
use Rattle.control.specs.declared.Control.{Control}
use Rattle.control.proofs.Unique.{read-unique}
use Rattle.configuration.specs.declared.Configuration.{Configuration}
use Rattle.configuration.proofs.Unique as configuration
use Rattle.exports.specs.Taking.{opened, took_all, delivered_of}
use Rattle.exports.specs.Numbers.{number_of, number_under, ControlNumber, StreamingNumber, ConfigurationNumber}

pub control-unique : (s : List ℕ) (r t : ℕ) → ControlNumber s r → ControlNumber s t → r ≡ t
control-unique s r t a b =
    let same = read-unique s a.read b.read in
    a.number ∙ ap (λ (c : Control). number_of c.verdict) same ∙ sym b.number

pub streaming-unique : (s b : List ℕ) (r t : ℕ) → StreamingNumber s b r → StreamingNumber s b t → r ≡ t
streaming-unique s b r t x y =
    let same = read-unique s x.read y.read in
    x.number ∙ ap (λ (c : Control). number_under c.verdict c.table b) same ∙ sym y.number

pub configuration-unique : (s : List ℕ) (r t : ℕ) → ConfigurationNumber s r → ConfigurationNumber s t → r ≡ t
configuration-unique s r t a b =
    let same = configuration.read-unique s a.read b.read in
    a.number ∙ ap (λ (c : Configuration). number_of c.verdict) same ∙ sym b.number

pub take-unique : (o : Opening) (size times : ℕ) (b l : List ℕ) (r t : ℕ) → r ≡ delivered_of (took_all size l (opened o b) times) → t ≡ delivered_of (took_all size l (opened o b) times) → r ≡ t
take-unique o size times b l r t e f = e ∙ sym f

pub take-buffer-unique : (o : Opening) (size times : ℕ) (b l x y : List ℕ) → x ≡ (took_all size l (opened o b) times).buffer → y ≡ (took_all size l (opened o b) times).buffer → x ≡ y
take-buffer-unique o size times b l x y e f = e ∙ sym f
