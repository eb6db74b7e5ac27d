pub mod OnePut
