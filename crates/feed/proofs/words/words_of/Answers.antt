use Rattle.std.proofs.Common.{◌∙◌, arith}
use lib.Seq.{set-get_or}
use Rattle.feed.specs.Words.{words_of}
use Rattle.feed.proofs.Wording.{words_count, word_at, words_step, words_end}
use Rattle.feed.proofs.words.words_of.Goals as goal

pub loop-made-preserved : goal.loop-made-preserved
loop-made-preserved c =
    let bytes = c.args.bytes.now in
    let whole = c.as_chunks.result.0.now in
    let i = c.loop-made.made in
    let found = c.in-Some.ensures.lookup.3 in
    let count = words_count bytes whole c.as_chunks.ensures.front in
    let word = word_at bytes c.in-Some.four.now whole i c.as_chunks.ensures.front found.0 found.1 in
    record {
      some = omega (arith, count, found.0);
      written = words_step (words_of bytes) c.args.words.now c.loop-made.words i c.from_le_bytes.result c.loop-made.invariant.written c.loop-made.auto.words (omega (arith, count, found.0)) c.loop-made-test.true (c.from_le_bytes.ensures ∙ word);
    }

pub returns-in_default : goal.returns-in_default
returns-in_default c =
    let i = c.loop-made.made in
    let count = words_count c.args.bytes.now c.as_chunks.result.0.now c.as_chunks.ensures.front in
    let e = words_end (words_of c.args.bytes.now) c.args.words.now c.loop-made.words i c.loop-made.invariant.written c.loop-made.invariant.some (omega (arith, count, c.in_default.ensures.lookup.3)) (omega arith) in
    record { answer = e.0; after = set-get_or c.loop-made.words i 0 ∙ e.1 }
