use Rattle.std.proofs.Common.{◌∙◌, ap, arith, ◌++◌, ◌∷◌, []}
use Rattle.std.proofs.lemmas.Grind.{common_steps}
use Rattle.std.proofs.lemmas.List.{take_all}
use Rattle.file_words.specs.declared.reading.FileWord.{FileWord}
use Rattle.file_words.specs.Reading.{file_words}
use Rattle.file_words.proofs.Numbered.{file_words-step}
use Rattle.file_words.proofs.reading.file_words.Goals as goal

pub loop-name-preserved : goal.loop-name-preserved
loop-name-preserved c = record {
  counted = omega arith;
  many = grind (arith, common_steps);
  made = c.in_ok-push.ensures.ok ∙ ap (λ (word : FileWord). c.loop-name.words ++ word ∷ []) c.in_ok-file_word.ensures
      ∙ file_words-step c.args.names.now c.loop-name.name-index c.loop-name.number c.name-item.result c.loop-name.words c.name-item.is c.loop-name-test.true c.loop-name.invariant.counted c.loop-name.invariant.made;
}

pub returns-clause-words : goal.returns-clause-words
returns-clause-words c = c.loop-name.invariant.made ∙ ap (file_words 1) (take_all c.loop-name.name-index c.args.names.now c.loop-name-test.false)
