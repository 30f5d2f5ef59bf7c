-- The rules of the pixels of a view, in a row.
use Rattle.std.specs.Prelude.{ℕ, ◌+◌, ◌<◌, ◌≤◌, ◌^◌, Bool, true, false, ◌&&◌, ◌||◌, nat_le, nat_lt}
use Rattle.std.specs.Prelude.{length, Option, None, Some, if◌then◌else◌}
use Rattle.nit_overlay.specs.Below.{Dim, Fill, Flat, IsLettering, Kill, Mode, Raw, Rule, Stripe}
use Rattle.nit_overlay.specs.Below.{Tag, Text, Tint, Xray, picture_height, picture_width}
use Rattle.nit_overlay.specs.Frame.{white_word, grey_word, red_word}
use Rattle.nit_overlay.specs.Span.{has_at_end}

-- the rule of a mode outside the label, on the ring or within it, for a session with the focus or
-- without
abbrev pub mode_rule : Mode → Bool → Bool → Rule
mode_rule Flat is_ring is_focused = Raw
mode_rule Xray true is_focused = Fill (if is_focused then white_word else grey_word)
mode_rule Xray false is_focused = if is_focused then Raw else Dim
mode_rule Kill true is_focused = Fill red_word
mode_rule Kill false is_focused = Tint

-- a column is one of the picture of a text
abbrev pub in_tag : Tag → ℕ → Bool
in_tag tag x =
    nat_le tag.left x && nat_lt x (tag.left + picture_width tag.lettering (length tag.text))

-- the text in its picture, and elsewhere another rule
abbrev pub tag_rule : Option Tag → ℕ → Rule → Rule
tag_rule None x rule = rule
tag_rule (Some tag) x rule = if in_tag tag x then Text tag else rule

-- the rule of a column
abbrev pub stripe_rule : Stripe → ℕ → Rule
stripe_rule s x = tag_rule s.tag x (mode_rule s.mode (has_at_end s.columns x || s.edge) s.focused)

-- a row is one of the picture of a text, which begins within 2^31 columns
pub record IsRowOfTag (y : ℕ) (tag : Tag) : Type 0 where
  pub lettering : IsLettering tag.lettering
  pub top : tag.top ≤ y
  pub bottom : y < tag.top + picture_height tag.lettering
  pub near : tag.left < 2 ^ 31
