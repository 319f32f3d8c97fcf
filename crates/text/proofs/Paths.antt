-- What was put, one text after the other, is the text that the definition has.
-- Assumes nothing.
use Prim.Native.Nat.{ℕ, zero, suc, ◌+◌, ◌-◌, ◌/◌, ◌%◌, ◌<◌, ◌≤◌}
use mathlib.Core.Path.{◌≡◌, refl, sym, ap, ◌∙◌}
use mathlib.Core.List.{List, [], ◌∷◌, ◌++◌}
use native.Mathlib.Omega.{arith}
use native.Mathlib.Numerals.{add-one}
use borrow.Author.Tests.{lt-ltb, le-ltb}
use lib.ListN.{length, get_or, take, set}
use lib.Seq.{take-suc, take_all}
use Rattle.frame.proofs.Choice.{pick_true, pick_false}
use Rattle.text.proofs.Laws.{put_append, byte_fits, byte_full}
use Rattle.text.specs.Page.{Page, page, put}
use Rattle.text.specs.Puts.{page_of, Puts}
use Rattle.text.specs.Text.{glyph, digits_in, hex_glyph, hexes}
use Rattle.text.specs.declared.page.Page as lent

-- ---- a byte

pub byte_put : (s : List ℕ) (at b : ℕ) → at < length s → page (set s at b) (at + 1) ≡ put (page s at) (b ∷ [])
unfolding put
byte_put s at b room = sym (byte_fits (page s at) b room)

pub byte_left_out : (s : List ℕ) (at b : ℕ) → length s ≤ at → page s at ≡ put (page s at) (b ∷ [])
unfolding put
byte_left_out s at b full = sym (byte_full (page s at) b full)

-- ---- texts

pub puts_nothing : (p : lent.Page) → Puts p p []
unfolding put
puts_nothing p = record { same = refl; holds = refl }

-- one text after the other
pub puts_then : {p q r : lent.Page} {a b : List ℕ} → Puts q r b → Puts p q a → Puts p r (a ++ b)
puts_then {p} {q} {r} {a} {b} h k =
    record { same = h.same ∙ k.same; holds = h.holds ∙ ap (λ (x : Page). put x b) k.holds ∙ put_append (page_of p) a b }

-- the same text
pub puts_as : {p q : lent.Page} {a b : List ℕ} → a ≡ b → Puts p q a → Puts p q b
puts_as {p} e h = record { same = h.same; holds = h.holds ∙ ap (put (page_of p)) e }

-- a text that was put through a page lent on: the lender has what that page's slice has at the end
pub puts_lent : {p q r s : lent.Page} {text : List ℕ} → Puts q r text → page_of q ≡ page_of p → s.bytes.ghost_name ≡ p.bytes.ghost_name
    → s.bytes.now ≡ r.bytes.now
    → s.place ≡ r.place
    → Puts p s text
puts_lent {r = r} {text = text} h e same bytes place =
    record { same = same; holds = rw (bytes, place) (h.holds ∙ ap (λ (x : Page). put x text) e) }

-- one byte more of a text
pub text_more : {p q r : lent.Page} (text : List ℕ) (i : ℕ) → i < length text → Puts q r (get_or text i 0 ∷ []) → Puts p q (take i text)
    → Puts p r (take (i + 1) text)
text_more text i inside h k = puts_as (sym (rw (add-one i) (take-suc text i 0 inside))) (puts_then h k)

pub text_ends : {p q : lent.Page} (text : List ℕ) (i : ℕ) → length text ≤ i → Puts p q (take i text) → Puts p q text
text_ends text i all h = puts_as (take_all i text all) h

-- ---- numbers

pub no_digits : (places n : ℕ) → places ≡ 0 → [] ≡ digits_in places n
unfolding digits_in
no_digits places n e = rw e refl

pub last_digit : (places n : ℕ) {d : ℕ} → d ≡ glyph n → (places ≡ 0 → ⊥) → n < 10 → (d ∷ []) ≡ digits_in places n
unfolding digits_in
last_digit zero n e some small = absurd (some refl)
last_digit (suc places) n e some small = pick_true _ (lt-ltb n 10 small) (ap (λ (x : ℕ). x ∷ []) e)

pub more_digits : (places n : ℕ) {d : ℕ} → d ≡ glyph (n % 10) → (places ≡ 0 → ⊥) → 10 ≤ n
    → digits_in (places - 1) (n / 10) ++ (d ∷ []) ≡ digits_in places n
unfolding digits_in
more_digits zero n e some large = absurd (some refl)
more_digits (suc places) n e some large =
    let fewer : suc places - 1 ≡ places = omega arith in
    rw (fewer, e) (pick_false _ (le-ltb n 10 large) refl)

pub hex_low : (n : ℕ) → n < 10 → 48 + n ≡ hex_glyph n
unfolding hex_glyph
hex_low n h = pick_true _ (lt-ltb n 10 h) refl

pub hex_high : (n : ℕ) → 10 ≤ n → 55 + n ≡ hex_glyph n
unfolding hex_glyph
hex_high n h = pick_false _ (le-ltb n 10 h) refl

pub hex_shown : (b : ℕ) {high low : ℕ} → high ≡ hex_glyph (b / 16) → low ≡ hex_glyph (b % 16) → (32 ∷ high ∷ low ∷ []) ≡ hexes (b ∷ [])
unfolding hexes
hex_shown b h l = rw (h, l) refl

-- the bytes of two lists, one after the other
hexes_append : (a b : List ℕ) → hexes (a ++ b) ≡ hexes a ++ hexes b
unfolding hexes
hexes_append [] b = refl
hexes_append (x ∷ a) b = ap (λ (l : List ℕ). 32 ∷ hex_glyph (x / 16) ∷ hex_glyph (x % 16) ∷ l) (hexes_append a b)

pub hexes_none : [] ≡ hexes []
unfolding hexes
hexes_none = refl

pub hexes_more : {p q r : lent.Page} (bytes : List ℕ) (i : ℕ) → i < length bytes → Puts q r (hexes (get_or bytes i 0 ∷ []))
    → Puts p q (hexes (take i bytes))
    → Puts p r (hexes (take (i + 1) bytes))
hexes_more bytes i inside h k =
    puts_as (sym (rw (add-one i, take-suc bytes i 0 inside) (hexes_append (take i bytes) (get_or bytes i 0 ∷ [])))) (puts_then h k)

pub hexes_end : {p q : lent.Page} (bytes : List ℕ) (i : ℕ) → length bytes ≤ i → Puts p q (hexes (take i bytes)) → Puts p q (hexes bytes)
hexes_end bytes i all h = puts_as (ap hexes (take_all i bytes all)) h
