use Rattle.std.proofs.Common.{refl}
use Rattle.history.proofs.Balance.{balance_law}
use Rattle.history.proofs.Distinction.{distinction_law}
use Rattle.history.proofs.Reading.{read_law, statement_law}
use Rattle.history.proofs.Reissue.{every_edition}
use Rattle.history.proofs.law.laws.Goals as goal

pub returns : goal.returns
returns c = record { answer = refl; balance = balance_law; distinction = distinction_law; editions = every_edition; reading = read_law; statements = statement_law }
