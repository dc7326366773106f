use Rattle.prem_profile.proofs.account.book.Goals as goal

pub book_in-requires : goal.book_in-requires
book_in-requires c = c.requires.each_fits c.args.row
