mod Numbers
mod Sets
