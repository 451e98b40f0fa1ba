-- Four bytes are set, and with them number i alone. Assumes nothing.
use native.Mathlib.Omega.{arith}
use mathlib.Core.List.{[], ◌∷◌}
use mathlib.Core.Path.{refl, ap, ◌∙◌}
use Rattle.words.specs.Words.{words_of, bytes_of}
use Rattle.words.proofs.Words.{room, words-put, put_part}
use Rattle.words.proofs.put_word.Goals as goal

pub overflow_mul-at : goal.overflow_mul-at
overflow_mul-at c = omega (arith, room _ _ c.requires)

pub overflow_add-at : goal.overflow_add-at
overflow_add-at c = omega (arith, room _ _ c.requires)

pub slice_bounds-copy_from_slice-end : goal.slice_bounds-copy_from_slice-end
slice_bounds-copy_from_slice-end c = omega (arith, room _ _ c.requires)

pub returns : goal.returns
unfolding bytes_of
returns c =
    let whole = put_part _ _ (bytes_of (c.args.x ∷ [])) _ (c.copy_from_slice.ensures.after ∙ c.to_le_bytes.ensures) refl (omega (arith, room _ _ c.requires)) in
    record { bytes = whole; words = ap words_of whole ∙ words-put c.args.s.now c.args.i c.args.x (omega arith) c.requires }
