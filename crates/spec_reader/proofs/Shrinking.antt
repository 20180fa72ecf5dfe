-- What loops read takes a word at least.
use Rattle.std.proofs.Common.{◌≡◌, ℕ, false, refl}
use Rattle.parser_combinators.specs.declared.token.Key.TheVariants as keys
use Rattle.parser_combinators.specs.declared.token.Version.{Version}
use Rattle.parser_combinators.specs.declared.token.Version.TheVariants as version
use Rattle.parser_combinators.specs.declared.token.Kind.TheVariants as kind
use Rattle.parser_combinators.specs.Words.{is_key}
use Rattle.parser_combinators.specs.Read.{one_more}
use Rattle.spec_reader.specs.Reading.{name_at, variable_at, spot_at, param_at, is_sign, signed_at, starts_line, line_at, starts_item, item_at}
use Rattle.parser_combinators.proofs.Loop.{Shrinks, shrinks}
use Rattle.parser_combinators.proofs.Pieces.{one_more_part}
use Rattle.spec_reader.proofs.TermParts.{name_part, signed_part, signed_begins}
use Rattle.spec_reader.proofs.LineParts.{variable_part, spot_part, line_part, line_begins}
use Rattle.spec_reader.proofs.ItemParts.{param_part, item_part, item_begins}

pub name_shrinks : (v : Version) → Shrinks (one_more (name_at v))
name_shrinks v = shrinks (is_key keys.Comma) (one_more_part (name_part v)) (λ a u f. refl) refl

pub variable_shrinks : (v : Version) → Shrinks (one_more (variable_at v))
variable_shrinks v = shrinks (is_key keys.Comma) (one_more_part (variable_part v)) (λ a u f. refl) refl

pub spot_shrinks : (v : Version) → Shrinks (one_more (spot_at v))
spot_shrinks v = shrinks (is_key keys.Comma) (one_more_part (spot_part v)) (λ a u f. refl) refl

pub param_shrinks : (v : Version) → Shrinks (one_more (param_at v))
param_shrinks v = shrinks (is_key keys.Comma) (one_more_part (param_part v)) (λ a u f. refl) refl

pub signed_shrinks : (v : Version) → Shrinks (signed_at v)
signed_shrinks v = shrinks is_sign (signed_part v) (λ a u f. signed_begins a u) refl

pub lines_end : (v : Version) → starts_line v kind.Nothing ≡ false
lines_end version.First = refl
lines_end version.Second = refl

pub line_shrinks : (v : Version) (d : ℕ) → Shrinks (line_at v d)
line_shrinks version.First d = shrinks (starts_line version.First) (line_part version.First d) (line_begins version.First d) refl
line_shrinks version.Second d = shrinks (starts_line version.Second) (line_part version.Second d) (line_begins version.Second d) refl

pub item_shrinks : (v : Version) (d : ℕ) → Shrinks (item_at v d)
item_shrinks v d = shrinks starts_item (item_part v d) (item_begins v d) refl
