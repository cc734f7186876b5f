use Rattle.cv_dates.proofs.TextLaws.{each_text_is_read, text_read_is_the_text, texts_are_read}
use Rattle.cv_dates.proofs.laws.one_text_each.Goals as goal

pub returns-clause-read : goal.returns-clause-read
returns-clause-read c = each_text_is_read

pub returns-clause-text : goal.returns-clause-text
returns-clause-text c = text_read_is_the_text

pub returns-clause-exact : goal.returns-clause-exact
returns-clause-exact c = texts_are_read
