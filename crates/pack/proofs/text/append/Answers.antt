use Rattle.std.proofs.Common.{ℕ, List, ◌++◌, vec_items, ap, ◌∙◌, take_all}
use Rattle.packing.specs.Bytes.{bytes_of}
use Rattle.packing.proofs.Joined.{bytes_more}
use Rattle.pack.proofs.text.append.Goals as goal

pub loop-word-preserved : goal.loop-word-preserved
loop-word-preserved c =
    c.in_ok-extend_from_slice.ensures.items
    ∙ bytes_more (vec_items c.loop-word.bytes) (vec_items c.args.bytes.now) _ c.as_slice-word-items.result.now c.loop-word.word-index c.loop-word-test.true c.loop-word.invariant c.to_le_bytes.ensures

pub returns : goal.returns
returns c =
    record { appended = c.loop-word.invariant ∙ ap (λ (ws : List ℕ). vec_items c.args.bytes.now ++ bytes_of ws) (take_all _ _ c.loop-word-test.false ∙ c.as_slice-word-items.ensures.answer ∙ c.packed-words.ensures.words) }
