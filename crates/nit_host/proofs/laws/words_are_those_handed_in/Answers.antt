use Rattle.nit_host.proofs.Lemmas.{called_words, come_word, handed_word, other_word, refl}
use Rattle.nit_host.proofs.Lemmas.{refused_words, stay_word, user_words}
use Rattle.nit_host.proofs.laws.words_are_those_handed_in.Goals as goal

pub returns : goal.returns
returns c = record {
  handed = handed_word;
  others = other_word;
  refused = refused_words;
  calls = called_words;
  user = user_words;
  looks = λ h. refl;
  comes = come_word;
  stay = stay_word;
}
