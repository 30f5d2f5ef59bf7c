use Rattle.nit_word.proofs.Lemmas.{All-take, IsWord, all_mapped, arith, block_mapped, more_mapped}
use Rattle.nit_word.proofs.Lemmas.{rest_all}
use Rattle.nit_word.proofs.shade.shade_row.Goals as goal

pub block-requires : goal.block-requires
block-requires g c = All-take IsWord 8 _ (rest_all IsWord _ _ _ _ c.blocks-2.invariant c.requires)

pub blocks-2-preserved : goal.blocks-2-preserved
blocks-2-preserved g c = block_mapped _ _ _ _ _ 8 c.blocks-2.invariant c.blocks-2.auto.row (omega arith) c.block.ensures

pub shade_words-requires : goal.shade_words-requires
shade_words-requires g c = All-take IsWord _ _ (rest_all IsWord _ _ _ _ c.blocks-2.invariant c.requires)

pub returns : goal.returns
returns g c =
    all_mapped _ _ _ _ (more_mapped _ _ _ c.shade_words.new.row _ _ c.blocks-2.invariant
    (omega (arith, c.blocks-2.auto.row)) c.shade_words.ensures) (omega (arith, c.blocks-2.auto.row))
