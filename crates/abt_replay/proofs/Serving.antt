-- The waiters of a reader-writer lock that want to read, one by one.
use Rattle.abt_rwlock.proofs.Readers.{after_readers-more, after_readers-none, first_readers-more}

pub ruleset serving = (first_readers-more, after_readers-more, after_readers-none)
