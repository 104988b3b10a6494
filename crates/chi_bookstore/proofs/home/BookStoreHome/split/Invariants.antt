-- The rule learns the number from the call.
use Rattle.chi_bookstore.proofs.home.BookStoreHome.split.Given as goal

abbrev pub ghosts-give : goal.ghosts-give
ghosts-give g a = record { number = a._src }
