use Rattle.std.proofs.Common.{◌≡◌, ◌<◌, length, string_bytes, ◌∙◌, rules}
use Rattle.pagemap.specs.declared.arguments.Place.TheVariants.{Cbar, Cbr, Bbr}
use Rattle.pagemap.specs.Arguments.{window_from, byte_for, base_for}
use Rattle.pagemap.proofs.Asked.{none, three, other}
use Rattle.pagemap.proofs.arguments.window.Goals as goal

pub returns-in-empty : goal.returns-in-empty
returns-in-empty c =
    let few : length c.args.arguments.now < 1 = search rules in
    none string_bytes c.args.arguments.now few

pub returns-in-len3 : goal.returns-in-len3
returns-in-len3 c =
    let all : length c.args.arguments.now ≡ 3 = search rules in
    c.window_of.ensures
    ∙ (λ i. window_from (byte_for Cbar (c.as_str.ensures.value i)) (base_for Cbr (c.as_str-in-len3.ensures.value i)) (base_for Bbr (c.as_str-in-len3-2.ensures.value i)))
    ∙ three string_bytes c.args.arguments.now c.cbar-item.result c.cbr-item.result c.bbr-item.result all c.cbar-item.is c.cbr-item.is c.bbr-item.is

pub returns-in_default : goal.returns-in_default
returns-in_default c =
    let some : length c.args.arguments.now ≡ 0 → ⊥ = search rules in
    let other-than : length c.args.arguments.now ≡ 3 → ⊥ = search rules in
    other string_bytes c.args.arguments.now some other-than

pub returns-in_default-2 : goal.returns-in_default-2
returns-in_default-2 c =
    let some : length c.args.arguments.now ≡ 0 → ⊥ = search rules in
    let other-than : length c.args.arguments.now ≡ 3 → ⊥ = search rules in
    other string_bytes c.args.arguments.now some other-than
